-- What a purge of the first deltas of a valid state's log leaves: the held ones, the setpoints, the messages behind those that are gone; and
-- how many deltas.
use Rattle.std.specs.Prelude.{◌≡◌, refl, not, ℕ, ◌+◌, ◌≤◌, ◌<◌, length, take, drop}
use Rattle.std.proofs.Math.Path.{sym, ap, ap₂}
use Rattle.std.proofs.Common.{◌∙◌, subst, ⊎_elim, arith, length-append, length-drop, take-append-drop, drop_at}
use mathlib.Core.List.Memᴰ
use mathlib.Core.List.{List, [], ◌∷◌, ◌++◌, append_assoc}
use Rattle.std.proofs.Math.Nat.{max-zero}
use Rattle.std.proofs.Math.Dec.{not_T}
use Rattle.model.specs.Lists.{◌∈◌, has}
use Rattle.model.specs.Bytes.{join}
use Rattle.model.specs.Message.{Message, sequence_of}
use Rattle.model.specs.Listing as L
use Rattle.model.specs.Order.{Origin, State, holding, Ascending, RightSet, sequences_of, log_of, held_of}
use Rattle.model.specs.Setpoints.{start_values, run_log, setpoints_of}
use Rattle.model.specs.Image.{messages_of}
use Rattle.model.specs.Purge.{origin_past, without, purge_first}
use Rattle.laws_order.specs.TestLaws.{Same, and_i, has→∈}
use Rattle.laws_order.specs.ListLaws.{∈_take, ∈_drop}
use Rattle.laws_order.specs.ListingLaws.{listing_length}
use Rattle.laws_wire.specs.BytesLaws.{join_append}
use Rattle.laws_state.specs.SetLaws.{ascending_names, ascending_unique}
use Rattle.laws_state.specs.PairLaws.{run_append}
use Rattle.laws_state.specs.LogLaws.{log_received, held_is, held_ascends, log_held, places}
use Rattle.laws_purge.specs.PurgedFloors.{left_is, left_ascends}
use Rattle.laws_purge.specs.PurgeLaws.{purge_log}

-- ---- a state's deltas are those of its log and those held, each once
ascending_listing : (l : List Message) (done : List ℕ) → ((x : Message) → x ∈ l → (s : ℕ) → s ∈ done → s < sequence_of x)
    → Ascending l → L.Listing sequence_of (λ m. []) done l
ascending_listing [] done above h = tt
ascending_listing (m ∷ l) done above h = (
  and_i (not (has (sequence_of m) done)) _ (not_T (has (sequence_of m) done)
      (λ t. let z : ⊥ = omega (arith, above m (Memᴰ.head refl) (sequence_of m) (has→∈ (sequence_of m) done t)) in absurd z)) tt,
  ascending_listing l (sequence_of m ∷ done)
      (λ x k s j. ⊎_elim (λ e. omega (arith, h.0 x k, e)) (λ i. above x (Memᴰ.tail k) s i) (Memᴰ.cases_cons j)) h.1,
)

pub log_held_length : (S : State) → Ascending S.deltas → length (log_of S) + length (held_of S) ≡ length S.deltas
log_held_length S h =
    let l : List Message = log_of S ++ held_of S in
    omega (
      arith,
      length-append (log_of S) (held_of S),
      places S h,
      listing_length sequence_of (λ m. []) l S.deltas
          (ascending_listing S.deltas [] (λ x k s j. absurd (Memᴰ.not-nil j)) h) (λ m k. (log_held S h m).1 k),
    )

-- the log is run from the base values past the gone ones
pub purge_start : (K : ℕ) (S : State) → start_values (purge_first K S) ≡ run_log (take K (log_of S)) (start_values S)
unfolding start_values purge_first origin_past
purge_start K S = refl

module _ (S : State) (right : RightSet S) (K : ℕ) where
  -- those in the log, before and after
  logged_cases : (P : Type 0) (m : Message) → m ∈ log_of S → (m ∈ take K (log_of S) → P) → (m ∈ drop K (log_of S) → P) → P
  logged_cases P m k f g = ⊎_elim f g
      (Memᴰ.append_cases (take K (log_of S)) (subst (λ (l : List Message). m ∈ l) (sym (take-append-drop K (log_of S))) k))

  held_same : Same (held_of (purge_first K S)) (held_of S)
  held_same = λ m. (
    λ k. let r = (held_is (purge_first K S) (left_ascends S right K) m).0 k in
        let left = (left_is S right K m).0 r.0 in
        (held_is S right.ascends m).1 (
          left.0,
          λ j. logged_cases ⊥ m j
              (λ i. left.1 (Memᴰ.map sequence_of i)) (λ i. r.1 (subst (λ (l : List Message). m ∈ l) (sym (purge_log S right K)) i)),
        ),
    λ k. let r = (held_is S right.ascends m).0 k in
        (held_is (purge_first K S) (left_ascends S right K) m).1 (
          (left_is S right K m).1 (r.0, λ j. r.1 (named m r.0 j)),
          λ i. r.1 (∈_drop K (log_of S) (subst (λ (l : List Message). m ∈ l) (purge_log S right K) i)),
        ),
  )
    where
      named : (m : Message) → m ∈ S.deltas → sequence_of m ∈ sequences_of (take K (log_of S)) → m ∈ log_of S
      named m k j =
          let g = Memᴰ.of_map sequence_of (take K (log_of S)) j in
          let there : g.0 ∈ log_of S = ∈_take K (log_of S) g.1 in
          Memᴰ.cast (ascending_names S.deltas right.ascends m g.0 k (log_received S right.ascends g.0 there) (sym g.2)) there

  -- Held ones stay.
  pub purge_held : held_of (purge_first K S) ≡ held_of S
  purge_held = ascending_unique (held_of (purge_first K S)) (held_of S)
      (held_ascends (purge_first K S) (left_ascends S right K)) (held_ascends S right.ascends) held_same

  -- The setpoints stay.
  pub purge_setpoints : setpoints_of (purge_first K S) ≡ setpoints_of S
  unfolding setpoints_of
  purge_setpoints =
      ap₂ run_log (purge_log S right K) (purge_start K S) ∙ sym (run_append (take K (log_of S)) (drop K (log_of S)) (start_values S))
      ∙ ap (λ (l : List Message). run_log l (start_values S)) (take-append-drop K (log_of S))

  -- The messages are those behind the gone ones, as they lie.
  pub messages_left : messages_of (purge_first K S) ≡ join (drop K (log_of S)) ++ join (held_of S)
  unfolding messages_of
  messages_left = ap₂ (λ (l k : List Message). join l ++ join k) (purge_log S right K) purge_held

  pub messages_parted : messages_of S ≡ join (take K (log_of S)) ++ (join (drop K (log_of S)) ++ join (held_of S))
  unfolding messages_of
  messages_parted =
      ap (λ (l : List Message). join l ++ join (held_of S)) (sym (take-append-drop K (log_of S)))
      ∙ ap (λ (b : List ℕ). b ++ join (held_of S)) (sym (join_append (take K (log_of S)) (drop K (log_of S))))
      ∙ append_assoc (join (take K (log_of S))) (join (drop K (log_of S))) (join (held_of S))

  pub purge_messages : messages_of (purge_first K S) ≡ drop (length (join (take K (log_of S)))) (messages_of S)
  purge_messages =
      messages_left
      ∙ sym (ap (drop (length (join (take K (log_of S))))) messages_parted
      ∙ drop_at (join (take K (log_of S))) (join (drop K (log_of S)) ++ join (held_of S)) (length (join (take K (log_of S)))) refl)

  -- K deltas fewer are left.
  pub purge_count : K ≤ length (log_of S) → length (purge_first K S).deltas + K ≡ length S.deltas
  purge_count h = omega (
    arith,
    log_held_length S right.ascends,
    log_held_length (purge_first K S) (left_ascends S right K),
    ap length (purge_log S right K),
    ap length purge_held,
    length-drop K (log_of S),
  )

-- a purge by the deltas that go
pub purge_past : (K : ℕ) (S : State) (gone : List Message) → take K (log_of S) ≡ gone
    → purge_first K S ≡ holding (origin_past S gone) (without gone S.deltas)
unfolding purge_first
purge_past K S gone e = ap (λ (l : List Message). holding (origin_past S l) (without l S.deltas)) e

-- ---- where nothing goes the state stays
without_none : (l : List Message) → without [] l ≡ l
without_none [] = refl
without_none (m ∷ l) = ap (λ (k : List Message). m ∷ k) (without_none l)

past_none : (S : State) → origin_past S [] ≡ S.origin
unfolding origin_past start_values
past_none S =
    let O : Origin = S.origin in
    ap₂ (λ (b g : ℕ). record { floors = O.floors; base = O.base; block = b; group = g }) (max-zero O.block) (max-zero O.group)

pub purge_nothing : (K : ℕ) (S : State) → take K (log_of S) ≡ [] → purge_first K S ≡ S
purge_nothing K S e = purge_past K S [] e ∙ ap₂ holding (past_none S) (without_none S.deltas)

pub purge_none : (S : State) → purge_first 0 S ≡ S
purge_none S = purge_nothing 0 S refl
