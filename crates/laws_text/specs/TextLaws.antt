-- The text of sequences is right and reads back as these; the sequences of a right text are of a right size, and their text is that
-- text.
use Rattle.std.specs.Prelude.{◌≡◌, refl, eqb, leb, take, drop}
use Rattle.std.proofs.Common.{sym, ◌∙◌, arith, eqb→eq, leb→le, length-append, take-append-drop, length-take-le, take_at, drop_at}
use Rattle.std.proofs.Math.Path.{ap, ap₂, subst}
use mathlib.Core.List.{List, [], ◌∷◌, ◌++◌, map, append_assoc, append-nil}
use Prim.Native.Nat.{ℕ, zero, suc, ◌+◌, ◌*◌, ◌/◌, ◌%◌, ◌≤◌}
use Rattle.std.proofs.Math.Dec.{T, le→leb}
use Rattle.std.proofs.Math.ListN.{length}
use Rattle.std.proofs.lemmas.List.{length-map}
use Rattle.model.specs.Lists.{◌∈◌, every, same}
use Rattle.model.specs.Bytes.{is_bytes, parts, join}
use Rattle.model.specs.Layout.{sequence_size, most_sequences, characters_size, text_part_size, sequences_room, text_room}
use Rattle.model.specs.Text.{comma, is_digit, characters_of, bytes_in, sequence_parts, joined, text_of, text_parts, sequence_in, sequence_bytes_in, text_part_right, text_right, sequences_right}
use Rattle.laws_order.specs.ListLaws.{map_map, map_same, map_all}
use Rattle.laws_order.specs.TestLaws.{and_l, and_r, and_i, eq→eqb, every_∈, ∈_every, same_refl, same→eq}
use Rattle.laws_wire.specs.BytesLaws.{length_parts, parts_join, parts_sized, parts_bytes, join_parts, join_bytes, length_join}
use Rattle.laws_text.specs.DigitLaws.{length_characters, length_bytes_in, characters_digits, bytes_back, bytes_in_bytes, characters_back}

-- the part of a text that a sequence has
abbrev pub text_part_of : List ℕ → List ℕ
text_part_of s = characters_of s ++ comma ∷ []

-- ---- one part
part_of_sized : (s : List ℕ) → length s ≡ sequence_size → length (text_part_of s) ≡ text_part_size
part_of_sized s h = length-append (characters_of s) (comma ∷ []) ∙ omega (arith, length_characters s)

module _ (s : List ℕ) (h : length s ≡ sequence_size) (t : T (is_bytes s)) where
  characters_sized : length (characters_of s) ≡ characters_size
  characters_sized = length_characters s ∙ omega arith

  part_of_right : T (text_part_right (text_part_of s))
  part_of_right =
      and_i (every is_digit (take characters_size (text_part_of s))) (same (drop characters_size (text_part_of s)) (comma ∷ []))
      (subst (λ (x : List ℕ). T (every is_digit x)) (sym (take_at (characters_of s) (comma ∷ []) characters_size characters_sized)) (characters_digits s t))
      (subst (λ (x : List ℕ). T (same x (comma ∷ []))) (sym (drop_at (characters_of s) (comma ∷ []) characters_size characters_sized)) (same_refl (comma ∷ [])))

  sequence_back : sequence_in (text_part_of s) ≡ s
  sequence_back = ap bytes_in (take_at (characters_of s) (comma ∷ []) characters_size characters_sized) ∙ bytes_back s t

module _ (e : List ℕ) (h : length e ≡ text_part_size) (t : T (text_part_right e)) where
  front_sized : length (take characters_size e) ≡ characters_size
  front_sized = length-take-le characters_size e (omega arith)

  front_digits : T (every is_digit (take characters_size e))
  front_digits = and_l (every is_digit (take characters_size e)) (same (drop characters_size e) (comma ∷ [])) t

  sequence_sized : length (sequence_in e) ≡ sequence_size
  sequence_sized = length_bytes_in sequence_size (take characters_size e) front_sized

  sequence_bytes : T (is_bytes (sequence_in e))
  sequence_bytes = bytes_in_bytes (take characters_size e) front_digits

  part_back : text_part_of (sequence_in e) ≡ e
  part_back =
      ap₂ (λ (x y : List ℕ). x ++ y) (characters_back sequence_size (take characters_size e) front_sized front_digits)
      (sym (same→eq (drop characters_size e) (comma ∷ []) (and_r (every is_digit (take characters_size e)) (same (drop characters_size e) (comma ∷ [])) t)))
      ∙ take-append-drop characters_size e

-- ---- texts with a comma put behind them are their parts end to end
joined_closed : (t : List ℕ) (l : List (List ℕ)) → joined (t ∷ l) ++ comma ∷ [] ≡ join (map (λ x. x ++ comma ∷ []) (t ∷ l))
joined_closed t [] = sym (append-nil (t ++ comma ∷ []))
joined_closed t (u ∷ l) =
    append_assoc t (comma ∷ joined (u ∷ l)) (comma ∷ []) ∙ ap (λ (x : List ℕ). t ++ comma ∷ x) (joined_closed u l)
    ∙ sym (append_assoc t (comma ∷ []) (join (map (λ x. x ++ comma ∷ []) (u ∷ l))))

closed : (n : ℕ) (b : List ℕ) → 1 ≤ n → joined (map characters_of (parts n sequence_size b)) ++ comma ∷ [] ≡ join (map text_part_of (parts n sequence_size b))
closed zero b h = let z : ⊥ = omega arith in absurd z
closed (suc n) b h =
    joined_closed (characters_of (take sequence_size b)) (map characters_of (parts n sequence_size (drop sequence_size b)))
    ∙ ap join (map_map (λ x. x ++ comma ∷ []) characters_of (parts (suc n) sequence_size b))

-- what stands before equal last characters is equal
before_last : (x y : List ℕ) (c : ℕ) → x ++ c ∷ [] ≡ y ++ c ∷ [] → x ≡ y
before_last x y c e =
    let sizes : length x + 1 ≡ length y + 1 = sym (length-append x (c ∷ [])) ∙ ap length e ∙ length-append y (c ∷ []) in
    sym (take_at x (c ∷ []) (length x) refl) ∙ ap (take (length x)) e ∙ take_at y (c ∷ []) (length x) (omega arith)

-- ---- what the writer is given: one to eight sequences
pub record Sequences (b : List ℕ) (n : ℕ) : Type 0 where
  pub bytes : T (is_bytes b)
  pub least : 1 ≤ n
  pub most : n ≤ most_sequences
  pub whole : length b ≡ n * sequence_size

pub sized_out : (b : List ℕ) → T (sequences_right b) → Sequences b (length b / sequence_size)
unfolding sequences_right
sized_out b t =
    let least : sequence_size ≤ length b = leb→le sequence_size (length b) (search (and_l, and_r) depth 8) in
    let most : length b ≤ sequences_room = leb→le (length b) sequences_room (search (and_l, and_r) depth 8) in
    let whole : length b % sequence_size ≡ 0 = eqb→eq (length b % sequence_size) 0 (search (and_l, and_r) depth 8) in
    record { bytes = search (and_l, and_r) depth 8; least = omega arith; most = omega arith; whole = omega arith }

pub sized_in : (b : List ℕ) (n : ℕ) → Sequences b n → T (sequences_right b)
unfolding sequences_right
sized_in b n s =
    let bytes : T (is_bytes b) = s.bytes in
    let least : T (leb sequence_size (length b)) = le→leb sequence_size (length b) (omega arith) in
    let most : T (leb (length b) sequences_room) = le→leb (length b) sequences_room (omega arith) in
    let whole : T (eqb (length b % sequence_size) 0) = eq→eqb {a = length b % sequence_size} {b = 0} (omega arith) in
    search and_i depth 8

module _ (b : List ℕ) (s : Sequences b (length b / sequence_size)) where
  abbrev count : ℕ
  count = length b / sequence_size

  abbrev sequences : List (List ℕ)
  sequences = sequence_parts b

  sequence_part_size : (p : List ℕ) → p ∈ sequences → length p ≡ sequence_size
  sequence_part_size = parts_sized count sequence_size b (omega (arith, s.whole))

  sequence_part_bytes : (p : List ℕ) → p ∈ sequences → T (is_bytes p)
  sequence_part_bytes = parts_bytes count sequence_size b s.bytes

  text_parts_sized : (e : List ℕ) → e ∈ map text_part_of sequences → length e ≡ text_part_size
  text_parts_sized = map_all (λ e. length e ≡ text_part_size) text_part_of sequences (λ p k. part_of_sized p (sequence_part_size p k))

  text_part_count : length (map text_part_of sequences) ≡ count
  text_part_count = length-map sequences text_part_of ∙ length_parts count sequence_size b

  text_closed : text_of b ++ comma ∷ [] ≡ join (map text_part_of sequences)
  unfolding text_of
  text_closed = closed count b s.least

  -- how long a text is
  pub text_length : length (text_of b) + 1 ≡ count * text_part_size
  text_length =
      sym (length-append (text_of b) (comma ∷ [])) ∙ ap length text_closed ∙ length_join text_part_size (map text_part_of sequences) text_parts_sized
      ∙ ap (λ (n : ℕ). n * text_part_size) text_part_count

  pub text_parts_are : text_parts (text_of b) ≡ map text_part_of sequences
  text_parts_are =
      let n : suc (length (text_of b)) / text_part_size ≡ length (map text_part_of sequences) = omega (arith, text_length, text_part_count) in
      ap₂ (λ (k : ℕ) (l : List ℕ). parts k text_part_size l) n (text_closed ∙ sym (append-nil (join (map text_part_of sequences))))
      ∙ parts_join text_part_size (map text_part_of sequences) [] text_parts_sized

  pub written_reads : sequence_bytes_in (text_of b) ≡ b
  unfolding sequence_bytes_in
  written_reads =
      ap (λ (l : List (List ℕ)). join (map sequence_in l)) text_parts_are
      ∙ ap join (map_map sequence_in text_part_of sequences ∙ map_same (λ p. sequence_in (text_part_of p)) sequences (λ p k. sequence_back p (sequence_part_size p k) (sequence_part_bytes p k)))
      ∙ join_parts count sequence_size b s.whole

  pub written_right : T (text_right (text_of b))
  unfolding text_right
  written_right =
      let most : T (leb (length (text_of b)) text_room) = le→leb (length (text_of b)) text_room (omega (arith, text_length, s.most)) in
      let whole : T (eqb (suc (length (text_of b)) % text_part_size) 0) = eq→eqb {a = suc (length (text_of b)) % text_part_size} {b = 0} (omega (arith, text_length)) in
      let right : T (every text_part_right (text_parts (text_of b))) = subst (λ (l : List (List ℕ)). T (every text_part_right l)) (sym text_parts_are) (∈_every text_part_right (map text_part_of sequences)
      (map_all (λ e. T (text_part_right e)) text_part_of sequences (λ p k. part_of_right p (sequence_part_size p k) (sequence_part_bytes p k)))) in
      search and_i depth 8

-- ---- what the reader is given: a right text
pub record Text (t : List ℕ) (n : ℕ) : Type 0 where
  pub least : 1 ≤ n
  pub most : n ≤ most_sequences
  pub whole : length t + 1 ≡ n * text_part_size
  pub parts_right : (e : List ℕ) → e ∈ parts n text_part_size (t ++ comma ∷ []) → T (text_part_right e)

pub text_out : (t : List ℕ) → T (text_right t) → Text t (suc (length t) / text_part_size)
unfolding text_right
text_out t r =
    let most : length t ≤ text_room = leb→le (length t) text_room (search (and_l, and_r) depth 8) in
    let whole : suc (length t) % text_part_size ≡ 0 = eqb→eq (suc (length t) % text_part_size) 0 (search (and_l, and_r) depth 8) in
    let right : T (every text_part_right (text_parts t)) = search (and_l, and_r) depth 8 in
    record { least = omega arith; most = omega arith; whole = omega arith; parts_right = every_∈ text_part_right (text_parts t) right }

module _ (t : List ℕ) (x : Text t (suc (length t) / text_part_size)) where
  abbrev part_count : ℕ
  part_count = suc (length t) / text_part_size

  abbrev found : List (List ℕ)
  found = text_parts t

  closed_length : length (t ++ comma ∷ []) ≡ part_count * text_part_size
  closed_length = length-append t (comma ∷ []) ∙ x.whole

  text_part_size_lem : (e : List ℕ) → e ∈ found → length e ≡ text_part_size
  text_part_size_lem = parts_sized part_count text_part_size (t ++ comma ∷ []) (omega (arith, closed_length))

  sequence_size_lem : (p : List ℕ) → p ∈ map sequence_in found → length p ≡ sequence_size
  sequence_size_lem = map_all (λ p. length p ≡ sequence_size) sequence_in found (λ e k. sequence_sized e (text_part_size_lem e k) (x.parts_right e k))

  sequence_count : length (map sequence_in found) ≡ part_count
  sequence_count = length-map found sequence_in ∙ length_parts part_count text_part_size (t ++ comma ∷ [])

  -- how many bytes are read
  pub read_length : length (sequence_bytes_in t) ≡ part_count * sequence_size
  unfolding sequence_bytes_in
  read_length = length_join sequence_size (map sequence_in found) sequence_size_lem ∙ ap (λ (n : ℕ). n * sequence_size) sequence_count

  pub read_sized : Sequences (sequence_bytes_in t) part_count
  unfolding sequence_bytes_in
  read_sized = record {
    bytes = join_bytes (map sequence_in found) (map_all (λ p. T (is_bytes p)) sequence_in found (λ e k. sequence_bytes e (text_part_size_lem e k) (x.parts_right e k)));
    least = x.least;
    most = x.most;
    whole = read_length;
  }

  -- the sequences that are read, one by one
  pub read_parts : sequence_parts (sequence_bytes_in t) ≡ map sequence_in found
  unfolding sequence_bytes_in
  read_parts =
      let n : length (sequence_bytes_in t) / sequence_size ≡ length (map sequence_in found) = omega (arith, read_length, sequence_count) in
      ap₂ (λ (k : ℕ) (l : List ℕ). parts k sequence_size l) n (sym (append-nil (sequence_bytes_in t)))
      ∙ parts_join sequence_size (map sequence_in found) [] sequence_size_lem

  pub read_writes : text_of (sequence_bytes_in t) ≡ t
  unfolding text_of
  read_writes =
      before_last (text_of (sequence_bytes_in t)) t comma
      (closed (length (sequence_bytes_in t) / sequence_size) (sequence_bytes_in t) (omega (arith, read_length, x.least))
      ∙ ap (λ (l : List (List ℕ)). join (map text_part_of l)) read_parts
      ∙ ap join (map_map text_part_of sequence_in found ∙ map_same (λ e. text_part_of (sequence_in e)) found (λ e k. part_back e (text_part_size_lem e k) (x.parts_right e k)))
      ∙ join_parts part_count text_part_size (t ++ comma ∷ []) closed_length)
