-- The places of a log are a table's, at most 64; and messages at places taken one at a time.
use Rattle.std.specs.Prelude.{◌≡◌, refl, List, [], ◌∷◌, ℕ, ◌+◌, ◌≤◌, ◌<◌, T, ℤ, length, drop, get_or}
use Rattle.std.proofs.Common.{sym, ◌∙◌, ap, subst, arith, add-one, drop_of_length-le, drop-cons}
use mathlib.Core.List.Memᴰ
use Rattle.std.proofs.lemmas.List.{length-map}
use Rattle.std.proofs.Math.ListN.{get_or-eq_default}
use Rattle.model.specs.Lists.{◌∈◌}
use Rattle.model.specs.Layout.{header_size, capacity}
use Rattle.model.specs.Message.{Message, passes}
use Rattle.model.specs.Order.{origin_right, log_of}
use Rattle.model.specs.Image.{origin_in}
use Rattle.model.specs.Setpoints.{start_values, run_log, setpoints_of}
use Rattle.laws_order.specs.ListLaws.{get_d_∈, get_d_map}
use Rattle.laws_state.specs.LogLaws.{log_received, log_length}
use Rattle.laws_wire.specs.MessageLaws.{passes_sized, sized_range}
use Rattle.set_table.specs.Table.{deltas_of, deltas_at, set_in, Holds}
use Rattle.set_table.specs.TableLaws.{deltas_length}
use Rattle.set_table.specs.PlaceLaws.{entry_passes}
use Rattle.image_sections.specs.LogPlaces.{TablePlaces, LogPlaces}

-- ---- the places of the log are inside, since no message of the log is empty
delta_inside : (pool starts : List ℕ) → Holds pool starts → (i : ℕ) → get_or (deltas_of pool starts) i [] ∈ deltas_of pool starts → i < length starts
delta_inside pool starts holds i k =
    let m : Message = get_or (deltas_of pool starts) i [] in
    let some : header_size ≤ length m = omega (arith, (sized_range m (passes_sized m (holds.pass m k))).0) in
    let past : length starts ≤ i → ⊥ = λ h.
    let out : length (deltas_of pool starts) ≤ i = omega (arith, deltas_length pool starts) in
    let none : length m ≡ 0 = ap length (get_or-eq_default (deltas_of pool starts) [] out) in omega arith
    in omega arith

pub log_inside : (pool starts places : List ℕ) → LogPlaces pool starts places → TablePlaces pool starts places
log_inside pool starts places l = record {
  holds = l.holds;
  inside = λ i k.
      delta_inside pool starts l.holds i
      (log_received (set_in pool starts) l.holds.ascends (get_or (deltas_of pool starts) i [])
      (subst (λ (x : List Message). get_or (deltas_of pool starts) i [] ∈ x) l.log (Memᴰ.map (λ (j : ℕ). get_or (deltas_of pool starts) j []) k)));
}

-- ---- how many places there are
pub log_count_lem : (pool starts places : List ℕ) → LogPlaces pool starts places → length places ≡ length (log_of (set_in pool starts))
log_count_lem pool starts places l = sym (length-map places (λ (i : ℕ). get_or (deltas_of pool starts) i [])) ∙ ap length l.log

pub log_fits : (pool starts places : List ℕ) → LogPlaces pool starts places → length places ≤ capacity
log_fits pool starts places l = omega (arith, log_count_lem pool starts places l, log_length (set_in pool starts) l.holds.ascends, l.holds.fits)

-- ---- the place at k is one of the table's, and its message passes
pub place_inside : (pool starts places : List ℕ) → TablePlaces pool starts places → (k : ℕ) → k < length places → get_or places k 0 < length starts
place_inside pool starts places p k h = p.inside (get_or places k 0) (get_d_∈ places k 0 h)

pub place_passes : (pool starts places : List ℕ) → TablePlaces pool starts places → (k : ℕ) → k < length places → T (passes (get_or (deltas_of pool starts) (get_or places k 0) []))
place_passes pool starts places p k h = entry_passes pool starts p.holds (get_or places k 0) (place_inside pool starts places p k h)

-- ---- the messages from the place at k on: that one's, and those from k + 1 on; none past the last
pub next_message : (l : List Message) (places : List ℕ) (k : ℕ) → k < length places
    → deltas_at l (drop k places) ≡ get_or l (get_or places k 0) [] ∷ deltas_at l (drop (k + 1) places)
next_message l places k h =
    ap (deltas_at l) (drop-cons places k 0 h) ∙ ap (λ (n : ℕ). get_or l (get_or places k 0) [] ∷ deltas_at l (drop n places)) (sym (add-one k))

pub no_message : (l : List Message) (places : List ℕ) (k : ℕ) → length places ≤ k → deltas_at l (drop k places) ≡ []
no_message l places k h = ap (deltas_at l) (drop_of_length-le places h)

-- ---- the deltas at places: as many as these, each of them passes, and each is the next of those from its place on; none is past the last
pub deltas_count : (l : List Message) (places : List ℕ) → length (deltas_at l places) ≡ length places
deltas_count l places = length-map places (λ (i : ℕ). get_or l i [])

pub delta_passes : (pool starts places : List ℕ) → TablePlaces pool starts places → {k : ℕ} {m : Message} → m ≡ get_or (deltas_at (deltas_of pool starts) places) k [] → k < length places → T (passes m)
delta_passes pool starts places p {k} e h =
    subst (λ (m : Message). T (passes m)) (sym (e ∙ get_d_map (λ (i : ℕ). get_or (deltas_of pool starts) i []) places k 0 [] h)) (place_passes pool starts places p k h)

pub next_delta : (l : List Message) (k : ℕ) → k < length l → drop k l ≡ get_or l k [] ∷ drop (k + 1) l
next_delta l k h = drop-cons l k [] h ∙ ap (λ (n : ℕ). get_or l k [] ∷ drop n l) (sym (add-one k))

pub no_delta : (l : List Message) (k : ℕ) → length l ≤ k → drop k l ≡ []
no_delta l k h = drop_of_length-le l h

-- ---- what the deltas at the log's places leave is what the log leaves
pub log_values : (pool starts places : List ℕ) (values : List ℤ) → LogPlaces pool starts places
    → values ≡ run_log (deltas_at (deltas_of pool starts) places) (start_values (set_in pool starts)) → values ≡ setpoints_of (set_in pool starts)
unfolding setpoints_of
log_values pool starts places values l e = e ∙ ap (λ (x : List Message). run_log x (start_values (set_in pool starts))) l.log

-- ---- the empty set has an empty log
pub empty_log : (pool : List ℕ) → T (origin_right (origin_in pool)) → LogPlaces pool [] []
unfolding log_of
empty_log pool right = record {
  holds = record { ascends = tt; fits = omega arith; pass = λ m k. absurd (Memᴰ.not-nil k); above = λ m k. absurd (Memᴰ.not-nil k); right = right };
  log = refl;
}
