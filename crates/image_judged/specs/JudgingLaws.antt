-- A buffer whose messages were read into a table is an image exactly if it is the image of the table's set; and what is known by the
-- answers of reading and judging.
use Rattle.std.specs.Prelude.{◌≡◌, refl, Bool, false, not, ◌&&◌, List, ℕ, ◌<◌, length, take, get_or, leb, Result, Ok, Err, is_ok}
use Rattle.std.proofs.Common.{sym, ◌∙◌, ap, ap₂, subst, arith, get_or-take, le→leb}
use Rattle.model.specs.Lists.{every, same}
use Rattle.model.specs.Layout.{capacity}
use Rattle.model.specs.Message.{sequence_of, passes}
use Rattle.model.specs.Order.{State, purged, origin_right, log_of}
use Rattle.model.specs.Image.{image_of, log_count, origin_in, message_offset, state_in, holdable, is_image}
use Rattle.laws_order.specs.TestLaws.{and_i, is_true, false_of, ∈_every}
use Rattle.laws_state.specs.ImageLaws.{own_log}
use Rattle.set_table.specs.Table.{starts_of, deltas_of, deltas_at, set_in}
use Rattle.set_table.specs.declared.Table.{Table}
use Rattle.image_table.specs.TableReading.{IsTable, ReadsTable}
use Rattle.refusals.specs.declared.Refusal.{Refusal}
use Rattle.refusals.specs.declared.Refusal.TheVariants.{NoImage}
use Rattle.image_listed.specs.declared.Station.{Station}
use Rattle.image_log.specs.LogRead.{ReadsLog}
use Rattle.image_judged.specs.Judging.{IsStation, Judges, Copies}

pub judged : (b : List ℕ) (t : Table) → IsTable b t → is_image b ≡ same (image_of (set_in b (starts_of t))) b
unfolding is_image
judged b t h =
    ap (λ (R : State). origin_right R.origin && leb (length R.deltas) capacity && every (holdable R) R.deltas && same (image_of R) b) (sym h.set)
    ∙ ap₂ (λ (origin few : Bool). origin && few && every (holdable S) S.deltas && same (image_of S) b)
    (is_true (origin_right S.origin) h.holds.right)
    (is_true (leb (length S.deltas) capacity) (le→leb (length S.deltas) capacity h.holds.fits))
    ∙ ap (λ (t : Bool). t && same (image_of S) b)
    (is_true (every (holdable S) S.deltas)
    (∈_every (holdable S) S.deltas (λ m k. and_i (passes m) (not (purged S (sequence_of m))) (h.holds.pass m k) (h.holds.above m k))))
  where
    S : State
    S = set_in b (starts_of t)

-- ---- by the answer of the origin's check
pub wrong_origin : (b : List ℕ) → origin_right (origin_in b) ≡ false → is_image b ≡ false
unfolding is_image
wrong_origin b e =
    let S = state_in b in ap (λ (t : Bool). t && leb (length S.deltas) capacity && every (holdable S) S.deltas && same (image_of S) b) e

-- ---- by the answer of the reading
pub read_wrong : (b : List ℕ) (r : Result Table Refusal) (why : Refusal) → ReadsTable b r → r ≡ Err why → is_image b ≡ false
read_wrong b r why h e = (subst (ReadsTable b) e h).1

pub read_right : (b : List ℕ) (r : Result Table Refusal) (t : Table) → ReadsTable b r → r ≡ Ok t → IsTable b t
read_right b r t h e = subst (ReadsTable b) e h

-- ---- a buffer whose log is not that of the table's set is no image
pub other_log : (b : List ℕ) (t : Table) → IsTable b t → (logged : ℕ) (places : List ℕ) → ReadsLog b (starts_of t) logged places
    → (deltas_at (deltas_of b (starts_of t)) (take logged places) ≡ log_of (set_in b (starts_of t)) → ⊥) → is_image b ≡ false
other_log b t h logged places r f = false_of (is_image b) (λ i. f (r.log ∙ own_log b i ∙ ap log_of (sym h.set)))

-- ---- by the answer of the judgement
unjudged : (b : List ℕ) (r : Result Station Refusal) → r ≡ Err NoImage → is_image b ≡ false → Judges b r
unjudged b r e h = subst (Judges b) (sym e) (refl, h)

pub judges_wrong : (b : List ℕ) (r : Result Station Refusal) (why : Refusal) → Judges b r → r ≡ Err why → is_image b ≡ false
judges_wrong b r why h e = (subst (Judges b) e h).1

pub judges_right : (b : List ℕ) (r : Result Station Refusal) (station : Station) → Judges b r → r ≡ Ok station → IsStation b station
judges_right b r station h e = subst (Judges b) e h

-- ---- what was judged is the test of the definition
pub judgement : (b : List ℕ) (r : Result Station Refusal) → Judges b r → is_ok r ≡ is_image b
judgement b (Ok station) h = sym (is_true (is_image b) h.image)
judgement b (Err why) h = sym h.1

-- ---- what is handed back where the buffer is no image
pub refused : (b copy : List ℕ) (r : Result Station Refusal) → r ≡ Err NoImage → is_image b ≡ false → Judges b r × Copies b copy r
refused b copy r e h = (unjudged b r e h, subst (Copies b copy) (sym e) tt)

-- ---- where the log's message at a place starts
pub place_offset : (b : List ℕ) (r : Station) → IsStation b r → (place : ℕ) → place < log_count b → get_or r.offsets place 0 ≡ message_offset b place
place_offset b r s place h = sym (get_or-take r.logged r.offsets place 0 (omega (arith, s.count))) ∙ s.offsets.each place h
