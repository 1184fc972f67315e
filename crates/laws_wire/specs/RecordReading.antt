-- Records read back from their bytes: each whose sequence, tags and values fit their fields.
use Rattle.std.specs.Prelude.{◌≡◌, refl, Bool, cond, List, [], ◌∷◌, ◌++◌, map, ℕ, ◌*◌, ◌-◌, ◌^◌, ◌<◌, length, replicate}
use Rattle.std.proofs.Common.{sym, ◌∙◌, ap, ap₂, append_assoc, arith, take_at, drop_at}
use Rattle.std.proofs.Math.Option.{some, none}
use mathlib.Core.List.Memᴰ
use Rattle.std.proofs.lemmas.List.{length-map}
use Rattle.std.specs.Int.Signed.{mag}
use Rattle.model.specs.Lists.{◌∈◌, same}
use Rattle.model.specs.Bytes.{number, bytes, parts, word, integer}
use Rattle.model.specs.Layout.{most_commands, sequence_size, value_size, pair_count_size, pair_tag_size, pair_size, step_size}
use Rattle.model.specs.Steps.{Step, undo, execute, Pair, pair_of, StepRecord, head_bytes, pair_bytes, pairs_bytes, record_bytes, records_bytes, pair_in, record_in, read_record, both, read_records}
use Rattle.laws_order.specs.TestLaws.{is_true, same_refl}
use Rattle.laws_wire.specs.BytesLaws.{number_bytes, parts_join, integer_word}
use Rattle.laws_wire.specs.StepBytesLaws.{Fits, length_pair, length_record}

-- the delta that a step names
abbrev pub name_of : Step → ℕ
name_of (undo s) = s
name_of (execute s) = s

pub record ReadablePair (p : Pair) : Type 0 where
  pub tag : p.tag < 256 ^ pair_tag_size
  pub value : mag p.value < 2147483648

pub record Readable (r : StepRecord) : Type 0 where
  pub fits : Fits r
  pub sequence : name_of r.step < 256 ^ sequence_size
  pub pairs : (p : Pair) → p ∈ r.pairs → ReadablePair p

pair_back : (p : Pair) → ReadablePair p → pair_in (pair_bytes p) ≡ p
pair_back p h =
    let small = integer_word p.value h.value in
    ap₂ pair_of (number_bytes pair_tag_size p.tag h.tag) (ap integer (number_bytes value_size (word p.value) small.0) ∙ small.1)

each_back : (l : List Pair) → ((p : Pair) → p ∈ l → ReadablePair p) → map pair_in (map pair_bytes l) ≡ l
each_back [] h = refl
each_back (p ∷ l) h = ap₂ ◌∷◌ (pair_back p (h p (Memᴰ.head refl))) (each_back l (λ x k. h x (Memᴰ.tail k)))

pairs_back : (l : List Pair) (rest : List ℕ) → ((p : Pair) → p ∈ l → ReadablePair p) → map pair_in (parts (length l) pair_size (pairs_bytes l ++ rest)) ≡ l
pairs_back l rest h =
    ap (λ (n : ℕ). map pair_in (parts n pair_size (pairs_bytes l ++ rest))) (sym (length-map l pair_bytes))
    ∙ ap (map pair_in) (parts_join pair_size (map pair_bytes l) rest (λ b k. let r = Memᴰ.of_map pair_bytes l k in ap length (sym r.2) ∙ length_pair r.0))
    ∙ each_back l h

-- a record is read back from the front of a buffer
record_back : (r : StepRecord) (rest : List ℕ) → Readable r → record_in (record_bytes r ++ rest) ≡ r
unfolding record_bytes
record_back r rest h = go r.step h.sequence
  where
    zeros : List ℕ
    zeros = replicate (pair_size * (most_commands - length r.pairs)) 0

    held : map pair_in (parts (number (bytes pair_count_size (length r.pairs))) pair_size (pairs_bytes r.pairs ++ zeros ++ rest)) ≡ r.pairs
    held =
        ap₂ (λ (n : ℕ) (b : List ℕ). map pair_in (parts n pair_size b)) (number_bytes pair_count_size (length r.pairs) (omega (arith, h.fits))) (append_assoc (pairs_bytes r.pairs) zeros rest)
        ∙ pairs_back r.pairs (zeros ++ rest) h.pairs

    go : (s : Step) → name_of s < 256 ^ sequence_size
        → record_in (head_bytes s (length r.pairs) ++ pairs_bytes r.pairs ++ zeros ++ rest) ≡ record { step = s; pairs = r.pairs }
    go (undo s) k = ap₂ (λ (n : ℕ) (l : List Pair). record { step = undo n; pairs = l }) (number_bytes sequence_size s k) held
    go (execute s) k = ap₂ (λ (n : ℕ) (l : List Pair). record { step = execute n; pairs = l }) (number_bytes sequence_size s k) held

read_record_lem : (r : StepRecord) (rest : List ℕ) → Readable r → read_record (record_bytes r ++ rest) ≡ some r
unfolding read_record
read_record_lem r rest h =
    ap₂ (λ (b : List ℕ) (x : StepRecord). cond (same b (record_bytes x)) (some x) none)
    (take_at (record_bytes r) rest step_size (length_record r h.fits)) (record_back r rest h)
    ∙ ap (λ (c : Bool). cond c (some r) none) (is_true (same (record_bytes r) (record_bytes r)) (same_refl (record_bytes r)))

pub read_records_lem : (l : List StepRecord) (rest : List ℕ) → ((r : StepRecord) → r ∈ l → Readable r) → read_records (length l) (records_bytes l ++ rest) ≡ some l
read_records_lem [] rest h = refl
read_records_lem (r ∷ l) rest h =
    let first : Readable r = h r (Memᴰ.head refl) in
    ap (λ (b : List ℕ). read_records (length (r ∷ l)) b) (append_assoc (record_bytes r) (records_bytes l) rest)
    ∙ ap₂ both (read_record_lem r (records_bytes l ++ rest) first)
    (ap (read_records (length l)) (drop_at (record_bytes r) (records_bytes l ++ rest) step_size (length_record r first.fits)) ∙ read_records_lem l rest (λ x k. h x (Memᴰ.tail k)))
