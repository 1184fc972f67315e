-- The log and the held ones: the computed log is the declared one and the only one, a received delta is in it exactly if it is
-- executable, held are the others. A state's deltas ascend by sequence throughout.
use Rattle.std.specs.Prelude.{◌≡◌, ◌⊎◌, ◌↔◌, Bool, List, [], ◌++◌, ℕ, ◌≤◌, length, get_or, T}
use Rattle.std.proofs.Common.{sym, ◌∙◌, ap₂, subst, inl, inr, ⊎_elim, arith, length-append, T_not}
use Rattle.std.proofs.Math.Path.{ap}
use Rattle.std.proofs.Math.Bool.{not}
use mathlib.Core.List.Memᴰ
use Rattle.std.proofs.Math.Dec.{not_T}
use Rattle.model.specs.Lists.{◌∈◌, has, keep}
use Rattle.model.specs.Message.{Message, sequence_of}
use Rattle.model.specs.Listing as L
use Rattle.model.specs.Order.{Origin, State, holding, Ascending, sequences_of, needs, placed_by, Reaches, MeetsRing, Executable, Grounded, executables_of, held_of, key_of, less, IsLog, log_of}
use Rattle.laws_order.specs.TestLaws.{Same, decide, same_test, has→∈, ∈→has, keep_∈, ∈_keep, keep_length, keep_cong}
use Rattle.laws_order.specs.KeyOrder.{Total, less_total}
use Rattle.laws_order.specs.ListingLaws.{fresh, any_chooses, grow_complete, complete_items, first_is, first_unique, after_from, after_has, listing_length, listing_room, listing_closed}
use Rattle.laws_order.specs.Reach.{reach_more, grounded↔executable}
use Rattle.laws_state.specs.SetLaws.{keep_ascending, ascending_names, ascending_unique}

-- ---- the key is a strict total order on every set: keys are under one, and tell the deltas of a set apart
pub key_order : Total less
key_order = less_total

pub key_sequence : (S : State) (a b : Message) → key_of S a ≡ key_of S b → sequence_of a ≡ sequence_of b
key_sequence S a b e = ap (λ (l : List ℕ). get_or l 4 0) e

pub keys_differ : (S : State) → Ascending S.deltas → (a b : Message) → a ∈ S.deltas → b ∈ S.deltas → key_of S a ≡ key_of S b → a ≡ b
keys_differ S h a b p q e = ascending_names S.deltas h a b p q (key_sequence S a b e)

-- ---- the log
pub log_is : (S : State) → Ascending S.deltas → IsLog S (log_of S)
unfolding log_of
log_is S h = first_is sequence_of (needs S) (key_of S) less less_total S.deltas (ascending_names S.deltas h) (keys_differ S h)

pub log_only : (S : State) → Ascending S.deltas → (l : List Message) → IsLog S l → l ≡ log_of S
log_only S h l g =
    first_unique sequence_of (needs S) (key_of S) less less_total S.deltas (ascending_names S.deltas h) (keys_differ S h) l (log_of S) g (log_is S h)

-- the log depends on the origin and on the set alone: whatever lists of messages make it up
pub log_of_set : (S R : State) → S.origin ≡ R.origin → Ascending S.deltas → Ascending R.deltas → Same S.deltas R.deltas → log_of S ≡ log_of R
log_of_set S R e p q f = ap₂ (λ (O : Origin) (l : List Message). log_of (holding O l)) e (ascending_unique S.deltas R.deltas p q f)

-- ---- the executable deltas
pub executables_complete : (S : State) → Ascending S.deltas → L.Complete sequence_of (needs S) S.deltas (executables_of S)
unfolding executables_of
executables_complete S h = grow_complete sequence_of (needs S) L.any_of any_chooses S.deltas (ascending_names S.deltas h)

-- what a delta waits for depends on the origin alone
needs_same : (S R : State) → S.origin ≡ R.origin → needs S ≡ needs R
unfolding needs
needs_same S R e = ap (λ (O : Origin). needs (holding O [])) e

-- a ring stays one, whatever is received besides
pub ring_stays : (S R : State) → S.origin ≡ R.origin → ((x : Message) → x ∈ S.deltas → x ∈ R.deltas) → (m : Message) → MeetsRing S m → MeetsRing R m
ring_stays S R e all m = ⊎_elim (λ r. inl (more r)) (λ r. inr (r.0, all r.0 r.1, more r.2, more r.3))
  where
    more : {a : Message} {s : ℕ} → Reaches S a s → Reaches R a s
    more {a} {s} r =
        subst (λ (waits : Message → List ℕ). L.Reaches sequence_of waits R.deltas a s) (needs_same S R e)
        (reach_more sequence_of (needs S) S.deltas R.deltas all r)

-- a delta of this sequence is in the log
abbrev pub Logged : State → ℕ → Type 0
Logged S s = (a : Message) × (a ∈ log_of S) × (sequence_of a ≡ s)

module _ (S : State) (ascends : Ascending S.deltas) where
  pub log_complete : L.Complete sequence_of (needs S) S.deltas (log_of S)
  log_complete = (log_is S ascends).complete

  pub log_received : (m : Message) → m ∈ log_of S → m ∈ S.deltas
  log_received m k = (log_complete.sound m k).0

  -- a received delta is in the log exactly if it is executable
  pub log_executable : (m : Message) → m ∈ S.deltas → (m ∈ log_of S) ↔ Executable S m
  log_executable m k = (λ j. (log_complete.sound m j).1, λ e. log_complete.complete m k e)

  -- and executable exactly if it is grounded
  pub log_grounded : (m : Message) → m ∈ S.deltas → (m ∈ log_of S) ↔ Grounded S m
  log_grounded m k =
      let g = grounded↔executable sequence_of (needs S) S.deltas (ascending_names S.deltas ascends) m k in
      (λ j. g.1 ((log_executable m k).0 j), λ e. (log_executable m k).1 (g.0 e))

  -- the log has the executable deltas
  pub log_executables : Same (log_of S) (executables_of S)
  log_executables = complete_items sequence_of (needs S) S.deltas (log_of S) (executables_of S) log_complete (executables_complete S ascends)

  -- of a received delta, any complete listing tells by its sequence whether it is listed
  named_listed : (l : List Message) → ((x : Message) → x ∈ l → x ∈ S.deltas) → (m : Message) → m ∈ S.deltas → sequence_of m ∈ sequences_of l → m ∈ l
  named_listed l all m k j =
      let r = Memᴰ.of_map sequence_of l j in
      Memᴰ.cast (ascending_names S.deltas ascends m r.0 k (all r.0 r.1) (sym r.2)) r.1

  log_named : (m : Message) → m ∈ S.deltas → sequence_of m ∈ sequences_of (log_of S) → m ∈ log_of S
  log_named = named_listed (log_of S) log_received

  -- held are those that are not in the log
  pub held_by_log : held_of S ≡ keep (λ m. not (has (sequence_of m) (sequences_of (log_of S)))) S.deltas
  unfolding held_of
  held_by_log = keep_cong (λ m. not (has (sequence_of m) (sequences_of (executables_of S)))) (λ m. not (has (sequence_of m) (sequences_of (log_of S)))) S.deltas
      (λ m k. ap not (same_test (has (sequence_of m) (sequences_of (executables_of S))) (has (sequence_of m) (sequences_of (log_of S)))
      (λ t. ∈→has (Memᴰ.map sequence_of ((log_executables m).1 (named_listed (executables_of S) (λ x j. ((executables_complete S ascends).sound x j).0) m k (has→∈ (sequence_of m) (sequences_of (executables_of S)) t)))))
      (λ t. ∈→has (Memᴰ.map sequence_of ((log_executables m).0 (log_named m k (has→∈ (sequence_of m) (sequences_of (log_of S)) t)))))))

  abbrev others : Message → Bool
  others x = not (has (sequence_of x) (sequences_of (log_of S)))

  pub held_is : (m : Message) → (m ∈ held_of S) ↔ ((m ∈ S.deltas) × ¬ (m ∈ log_of S))
  held_is m = (
    λ j. let k = keep_∈ others S.deltas (subst (λ (l : List Message). m ∈ l) held_by_log j) in
        (k.0, λ l. T_not (has (sequence_of m) (sequences_of (log_of S))) k.1 (∈→has (Memᴰ.map sequence_of l))),
    λ r. subst (λ (l : List Message). m ∈ l) (sym held_by_log)
        (∈_keep others r.0 (not_T (has (sequence_of m) (sequences_of (log_of S))) (λ t. r.1 (log_named m r.0 (has→∈ (sequence_of m) (sequences_of (log_of S)) t))))),
  )

  -- which is to say, those that are not executable
  pub held_executable : (m : Message) → (m ∈ held_of S) ↔ ((m ∈ S.deltas) × ¬ Executable S m)
  held_executable m = (
    λ j. let k = (held_is m).0 j in (k.0, λ e. k.1 ((log_executable m k.0).1 e)),
    λ r. (held_is m).1 (r.0, λ l. r.1 ((log_executable m r.0).0 l)),
  )

  pub held_ascends : Ascending (held_of S)
  held_ascends = subst Ascending (sym held_by_log) (keep_ascending others S.deltas ascends)

  -- what meets a ring is held
  pub ring_held : (m : Message) → m ∈ S.deltas → MeetsRing S m → m ∈ held_of S
  ring_held m k ring = (held_is m).1 (
    k,
    λ l. let g : Grounded S m = (log_grounded m k).0 l in
        ⊎_elim g.no_ring (λ r. g.no_ring_behind r.0 r.1 r.2 r.3) ring,
  )

  -- each delta is in the log or held
  pub log_held : Same (log_of S ++ held_of S) S.deltas
  log_held = λ m. (
    λ k. ⊎_elim (λ j. log_received m j) (λ j. ((held_is m).0 j).0) (Memᴰ.append_cases (log_of S) k),
    λ k. either m k (decide (has (sequence_of m) (sequences_of (log_of S)))),
  )
    where
      either : (m : Message) → m ∈ S.deltas → T (has (sequence_of m) (sequences_of (log_of S))) ⊎ T (not (has (sequence_of m) (sequences_of (log_of S)))) → m ∈ log_of S ++ held_of S
      either m k (inl t) = Memᴰ.append_left (held_of S) (log_named m k (has→∈ (sequence_of m) (sequences_of (log_of S)) t))
      either m k (inr t) = Memᴰ.append_right (log_of S) ((held_is m).1 (k, λ l. T_not (has (sequence_of m) (sequences_of (log_of S))) t (∈→has (Memᴰ.map sequence_of l))))

  pub log_length : length (log_of S) ≤ length S.deltas
  log_length = listing_length sequence_of (needs S) S.deltas (log_of S) log_complete.listing log_received

  pub held_length : length (held_of S) ≤ length S.deltas
  held_length = omega (arith, ap length held_by_log, keep_length others S.deltas)

  -- held is what the log does not place
  pub held_fresh : held_of S ≡ keep (fresh sequence_of (placed_by (log_of S))) S.deltas
  held_fresh = held_by_log ∙ keep_cong others (fresh sequence_of (placed_by (log_of S))) S.deltas
      (λ m k. ap not (same_test (has (sequence_of m) (sequences_of (log_of S))) (has (sequence_of m) (placed_by (log_of S)))
      (λ t. let r = Memᴰ.of_map sequence_of (log_of S) (has→∈ (sequence_of m) (sequences_of (log_of S)) t) in ∈→has (Memᴰ.cast (sym r.2) (after_has sequence_of (log_of S) [] r.1)))
      (λ t. ∈→has (named m (after_from sequence_of (log_of S) [] (has→∈ (sequence_of m) (placed_by (log_of S)) t))))))
    where
      named : (m : Message) → (sequence_of m ∈ []) ⊎ ((b : Message) × (b ∈ log_of S) × (sequence_of b ≡ sequence_of m)) → sequence_of m ∈ sequences_of (log_of S)
      named m (inl q) = absurd (Memᴰ.not-nil q)
      named m (inr r) = Memᴰ.cast (sym r.2) (Memᴰ.map sequence_of r.1)

  -- and each delta has one place
  pub places : length (log_of S ++ held_of S) ≤ length S.deltas
  places = omega (
    arith,
    length-append (log_of S) (held_of S),
    ap length held_fresh,
    keep_length (fresh sequence_of []) S.deltas,
    listing_room sequence_of (needs S) S.deltas (log_of S) [] log_complete.listing log_received,
  )

  -- the needs of a logged delta are logged
  pub log_closed : (b : Message) → b ∈ log_of S → (s : ℕ) → s ∈ needs S b → Logged S s
  log_closed b k s j = ⊎_elim (λ q. absurd (Memᴰ.not-nil q)) (λ r. r) (after_from sequence_of (log_of S) [] (listing_closed sequence_of (needs S) (log_of S) [] log_complete.listing b k s j))
