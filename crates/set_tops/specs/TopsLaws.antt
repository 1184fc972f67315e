-- Tops as bytes: how many they are, each by its place, those before a place and behind it; one put over another, and one put in.
use Rattle.std.specs.Prelude.{◌≡◌, List, [], ◌∷◌, ◌++◌, map, ℕ, zero, suc, ◌+◌, ◌*◌, ◌-◌, ◌^◌, ◌≤◌, ◌<◌, length, take, drop, get_or, T}
use Rattle.std.proofs.Common.{sym, ◌∙◌, ap, ap₂, append_assoc, arith, length-drop, drop-drop, take_at, drop_at, take_all, take-take, length-take-le}
use Rattle.std.proofs.lemmas.List.{map-append, length-map}
use Rattle.std.proofs.Math.Seq.{paste}
use Rattle.std.proofs.lemmas.List.Edits.{length-paste}
use Rattle.model.specs.Bytes.{is_bytes, number, field, bytes, parts, join}
use Rattle.model.specs.Layout.{sequence_size}
use Rattle.laws_order.specs.ListLaws.{get_d_map}
use Rattle.laws_wire.specs.BytesLaws.{length_bytes, length_parts, parts_at, number_bytes, field_range}
use Rattle.laws_origin.specs.OriginLaws.{parts_agree}
use Rattle.laws_origin.specs.SectionLaws.{sequences_bytes}
use Rattle.buffer_writes.specs.PasteLaws.{part_before, part_pasted}
use Rattle.set_table.specs.Table.{insert_at}
use Rattle.set_tops.specs.TopsIn.{tops_in}

pub tops_length : (b : List ℕ) (n : ℕ) → length (tops_in b n) ≡ n
unfolding tops_in
tops_length b n = length-map (parts n sequence_size b) number ∙ length_parts n sequence_size b

pub top_at : (b : List ℕ) (n k : ℕ) → k < n → get_or (tops_in b n) k 0 ≡ field b (sequence_size * k) sequence_size
unfolding tops_in
top_at b n k h =
    get_d_map number (parts n sequence_size b) k [] 0 (omega (arith, length_parts n sequence_size b)) ∙ ap number (parts_at n sequence_size b k h)

pub top_small : (b : List ℕ) (n k : ℕ) → T (is_bytes b) → k < n → get_or (tops_in b n) k 0 < 256 ^ sequence_size
top_small b n k are h = omega (arith, top_at b n k h, field_range b (sequence_size * k) sequence_size are)

-- their bytes are the buffer's own
pub tops_bytes : (b : List ℕ) (n : ℕ) → T (is_bytes b) → sequence_size * n ≤ length b → join (map (bytes sequence_size) (tops_in b n)) ≡ take (sequence_size * n) b
unfolding tops_in
tops_bytes b n are room = sequences_bytes b n are room

-- what stands behind the first n makes no difference
pub tops_agree : (a b : List ℕ) (n : ℕ) → take (sequence_size * n) a ≡ take (sequence_size * n) b → tops_in a n ≡ tops_in b n
unfolding tops_in
tops_agree a b n e =
    let turned : n * sequence_size ≡ sequence_size * n = omega arith in
    ap (map number) (parts_agree n sequence_size a b (ap (λ (k : ℕ). take k a) turned ∙ e ∙ ap (λ (k : ℕ). take k b) (sym turned)))

-- ---- the first p, and those behind them
parts_split : (p k size : ℕ) (b : List ℕ) → parts (p + k) size b ≡ parts p size b ++ parts k size (drop (size * p) b)
parts_split zero k size b = ap₂ (λ (n m : ℕ). parts n size (drop m b)) {x = 0 + k} {y = k} {u = 0} {v = size * 0} (omega arith) (omega arith)
parts_split (suc p) k size b =
    ap (λ (n : ℕ). parts n size b) {x = suc p + k} {y = suc (p + k)} (omega arith)
    ∙ ap (λ (l : List (List ℕ)). take size b ∷ l)
    (parts_split p k size (drop size b) ∙ ap (λ (l : List ℕ). parts p size (drop size b) ++ parts k size l)
    (drop-drop (size * p) size b ∙ ap (λ (n : ℕ). drop n b) {x = size + size * p} {y = size * suc p} (omega arith)))

tops_split : (b : List ℕ) (p k : ℕ) → tops_in b (p + k) ≡ tops_in b p ++ tops_in (drop (sequence_size * p) b) k
unfolding tops_in
tops_split b p k = ap (map number) (parts_split p k sequence_size b) ∙ map-append number (parts p sequence_size b) (parts k sequence_size (drop (sequence_size * p) b))

tops_before : (b : List ℕ) (p k : ℕ) → tops_in b p ≡ take p (tops_in b (p + k))
tops_before b p k = sym (ap (take p) (tops_split b p k) ∙ take_at (tops_in b p) (tops_in (drop (sequence_size * p) b) k) p (tops_length b p))

tops_behind : (b : List ℕ) (p k : ℕ) → tops_in (drop (sequence_size * p) b) k ≡ drop p (tops_in b (p + k))
tops_behind b p k = sym (ap (drop p) (tops_split b p k) ∙ drop_at (tops_in b p) (tops_in (drop (sequence_size * p) b) k) p (tops_length b p))

-- ---- one sequence between bytes
top_first : (v k : ℕ) (rest : List ℕ) → v < 256 ^ sequence_size → tops_in (bytes sequence_size v ++ rest) (suc k) ≡ v ∷ tops_in rest k
unfolding tops_in
top_first v k rest h =
    let size : length (bytes sequence_size v) ≡ sequence_size = length_bytes sequence_size v in
    ap₂ (λ (x y : List ℕ). number x ∷ tops_in y k) (take_at (bytes sequence_size v) rest sequence_size size) (drop_at (bytes sequence_size v) rest sequence_size size)
    ∙ ap (λ (n : ℕ). n ∷ tops_in rest k) (number_bytes sequence_size v h)

-- ---- one sequence pasted over the bytes of a top
module _ (b : List ℕ) (p k v : ℕ) (small : v < 256 ^ sequence_size) (room : sequence_size * p + sequence_size ≤ length b) where
  tops_around : tops_in (paste b (sequence_size * p) (bytes sequence_size v) sequence_size) (p + suc k) ≡ tops_in b p ++ v ∷ tops_in (drop (sequence_size * p + sequence_size) b) k
  tops_around =
      let before : List ℕ = take (sequence_size * p) b in
      let own : List ℕ = bytes sequence_size v in
      let rest : List ℕ = drop (sequence_size * p + sequence_size) b in
      let sized : length before ≡ sequence_size * p = length-take-le (sequence_size * p) b (omega arith) in
      ap (λ (l : List ℕ). tops_in l (p + suc k))
      (ap (λ (l : List ℕ). before ++ l ++ rest) (take_all sequence_size own (omega (arith, length_bytes sequence_size v))) ∙ append_assoc before own rest)
      ∙ tops_split (before ++ (own ++ rest)) p (suc k)
      ∙ ap₂ ◌++◌ (tops_agree (before ++ (own ++ rest)) b p (take_at before (own ++ rest) (sequence_size * p) sized))
      (ap (λ (l : List ℕ). tops_in l (suc k)) (drop_at before (own ++ rest) (sequence_size * p) sized) ∙ top_first v k rest small)

pub tops_put_over : (b : List ℕ) (p n v : ℕ) → v < 256 ^ sequence_size → p < n → sequence_size * n ≤ length b
    → tops_in (paste b (sequence_size * p) (bytes sequence_size v) sequence_size) n ≡ take p (tops_in b n) ++ v ∷ drop (suc p) (tops_in b n)
tops_put_over b p n v small h room =
    let k : ℕ = n - suc p in
    let whole : n ≡ p + suc k = omega arith in
    let next : suc p + k ≡ n = omega arith in
    ap (tops_in (paste b (sequence_size * p) (bytes sequence_size v) sequence_size)) whole
    ∙ tops_around b p k v small (omega arith)
    ∙ ap₂ (λ (x y : List ℕ). x ++ v ∷ y)
    (tops_before b p (suc k) ∙ ap (λ (m : ℕ). take p (tops_in b m)) (sym whole))
    (ap (λ (m : ℕ). tops_in (drop m b) k) {x = sequence_size * p + sequence_size} {y = sequence_size * suc p} (omega arith)
    ∙ tops_behind b (suc p) k ∙ ap (λ (m : ℕ). drop (suc p) (tops_in b m)) next)

-- ---- the bytes of the tops from a place on are copied out, and back one top further on; a sequence is put before them
module _ (b : List ℕ) (p n v : ℕ) (small : v < 256 ^ sequence_size) (inside : p ≤ n) (room : sequence_size * n + sequence_size ≤ length b) where
  abbrev at : ℕ
  at = sequence_size * p

  abbrev size : ℕ
  size = sequence_size * (n - p)

  tops_moved : (x : List ℕ) → size ≤ length x → take size x ≡ take size (drop at b)
      → tops_in (paste (paste b (at + sequence_size) x size) at (bytes sequence_size v) sequence_size) (n + 1) ≡ insert_at p v (tops_in b n)
  tops_moved x long same =
      let k : ℕ = n - p in
      let moved : List ℕ = paste b (at + sequence_size) x size in
      let more : n + 1 ≡ p + suc k = omega arith in
      let whole : p + k ≡ n = omega arith in
      ap (tops_in (paste moved at (bytes sequence_size v) sequence_size)) more
      ∙ tops_around moved p k v small (omega (arith, length-paste b (at + sequence_size) x size (omega arith) long))
      ∙ ap₂ (λ (y z : List ℕ). y ++ v ∷ z)
      (tops_agree moved b p (part_before b (at + sequence_size) x size 0 at (omega arith) (omega arith))
      ∙ tops_before b p k ∙ ap (λ (m : ℕ). take p (tops_in b m)) whole)
      (tops_agree (drop (at + sequence_size) moved) (drop at b) k (part_pasted b (at + sequence_size) x size (omega arith) long ∙ same)
      ∙ tops_behind b p k ∙ ap (λ (m : ℕ). drop p (tops_in b m)) whole)

  pub tops_put_in : (clear : List ℕ) {behind back out : List ℕ} → behind ≡ paste clear 0 (take (length b - at) (drop at b)) size → size ≤ length behind
      → back ≡ paste b (at + sequence_size) behind size → out ≡ paste back at (bytes sequence_size v) sequence_size → tops_in out (n + 1) ≡ insert_at p v (tops_in b n)
  tops_put_in clear {behind} {back} {out} copied long moved put =
      let rest : List ℕ = take (length b - at) (drop at b) in
      let left : length rest ≡ length b - at = length-take-le (length b - at) (drop at b) (omega (arith, length-drop at b)) in
      ap (λ (l : List ℕ). tops_in l (n + 1)) (put ∙ ap (λ (l : List ℕ). paste l at (bytes sequence_size v) sequence_size) moved)
      ∙ tops_moved behind long
      (ap (take size) copied ∙ part_pasted clear 0 rest size (omega arith) (omega arith) ∙ take-take size (length b - at) (drop at b) (omega arith))
