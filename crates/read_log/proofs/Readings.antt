-- Whole readings: what n calls of next give and leave, of the definitions and of the code.
use Rattle.std.specs.Prelude.{◌≡◌, Bool, cond, not, take, get_or, replicate, T, eqb, leb}
use Rattle.std.proofs.Math.Path.{refl, ap}
use Rattle.std.proofs.Common.{sym, ◌∙◌, subst, ⊎_elim, arith, add-one, take_all, leb→le}
use mathlib.Core.List.{List, [], ◌∷◌, ◌++◌}
use Prim.Native.Nat.{ℕ, zero, suc, ◌+◌, ◌-◌, ◌<◌, min}
use Rattle.std.proofs.Math.ListN.{length}
use Rattle.std.proofs.Math.Dec.{nleb→lt}
use Rattle.model.specs.Lists.{◌∈◌, sum}
use Rattle.model.specs.Layout.{image_size}
use Rattle.model.specs.Message.{Message}
use Rattle.model.specs.Image.{messages_start_in, log_in, offset_of, message_offset}
use Rattle.model.specs.Codes.{lowest_code, read_conditions}
use Rattle.model.specs.Calls as model
use Rattle.model.specs.Calls.{next_message}
use Rattle.laws_order.specs.TestLaws.{is_true, eq→eqb, decide}
use Rattle.laws_state.specs.OffsetLaws.{offset_first, offset_next, message_at_offset, log_count_lem, log_offset_lem, log_full}
use Rattle.read_log.specs.declared.reader.LogReader.{LogReader}
use Rattle.read_log.specs.Reader.{reader_of, Starts, read_of}
use Rattle.read_log.specs.ReaderLaws.{code_image}
use Rattle.read_log.specs.Readings.{parts_of, after, NextCalls, WholeReading, log_offset, reader_at}

-- ---- the parts from a place on
parts_from : ℕ → ℕ → List Message → List Message
parts_from zero k l = []
parts_from (suc n) k l = get_or l k [] ∷ parts_from n (suc k) l

later : (n k : ℕ) (m : Message) (l : List Message) → parts_from n (suc k) (m ∷ l) ≡ parts_from n k l
unfolding parts_from
later zero k m l = refl
later (suc n) k m l = ap (λ (x : List Message). get_or l k [] ∷ x) (later n (suc k) m l)

none_left : (n k : ℕ) → parts_from n k [] ≡ replicate n []
unfolding parts_from
none_left zero k = refl
none_left (suc n) k = ap (λ (x : List Message). [] ∷ x) (none_left n (suc k))

parts_all : (n : ℕ) (l : List Message) → parts_from n 0 l ≡ take n l ++ replicate (n - length l) []
unfolding parts_from
parts_all zero l = ap (λ (k : ℕ). replicate k []) {x = 0} {y = 0 - length l} (omega arith)
parts_all (suc n) [] = none_left (suc n) 0 ∙ ap (λ (k : ℕ). replicate k []) {x = suc n} {y = suc n - 0} (omega arith)
parts_all (suc n) (m ∷ l) =
    ap (λ (x : List Message). m ∷ x) (later n 0 m l ∙ parts_all n l)
    ∙ ap (λ (k : ℕ). m ∷ (take n l ++ replicate k [])) {x = n - length l} {y = suc n - suc (length l)} (omega arith)

-- as many as there are
take_min : (n : ℕ) (l : List Message) → take n l ≡ take (min n (length l)) l
take_min n l = ⊎_elim within past (decide (leb n (length l)))
  where
    within : T (leb n (length l)) → take n l ≡ take (min n (length l)) l
    within t = ap (λ (k : ℕ). take k l) {x = n} {y = min n (length l)} (omega (arith, leb→le n (length l) t))

    past : T (not (leb n (length l))) → take n l ≡ take (min n (length l)) l
    past t = let h : length l < n = nleb→lt n (length l) t in take_all n l (omega arith) ∙ sym (take_all (min n (length l)) l (omega arith))

module _ (b : List ℕ) (accepted : lowest_code (read_conditions b) ≡ 0) where
  full : (m : Message) → m ∈ log_in b → 0 < length m
  full = log_full b (code_image b accepted).1

  abbrev pub message : ℕ → Message
  message k = get_or (log_in b) k []

  pub next_at : (k : ℕ) → model.next (reader_at b k) ≡ read_of (message k) (reader_at b (suc k))
  unfolding model.next
  next_at k =
      let m : next_message (lowest_code (read_conditions b)) b (log_offset b k) ≡ message k =
      ap (λ (n : ℕ). next_message n b (log_offset b k)) accepted ∙ message_at_offset (messages_start_in b) (log_in b) full k in
      ap (λ (x : Message). read_of x (record { image = b; offset = log_offset b k + length x })) m
      ∙ ap (λ (n : ℕ). read_of (message k) (record { image = b; offset = n })) (sym (offset_next (messages_start_in b) (log_in b) k) ∙ ap (log_offset b) (add-one k))

  parts_on : (n k : ℕ) → parts_of n (reader_at b k) ≡ parts_from n k (log_in b)
  unfolding parts_from
  parts_on zero k = refl
  parts_on (suc n) k = ap (λ (x : model.Read). x.part ∷ parts_of n x.reader) (next_at k) ∙ ap (λ (l : List Message). message k ∷ l) (parts_on n (suc k))

  after_on : (n k : ℕ) → after n (reader_at b k) ≡ reader_at b (k + n)
  after_on zero k = ap (reader_at b) {x = k} {y = k + 0} (omega arith)
  after_on (suc n) k = ap (λ (x : model.Read). after n x.reader) (next_at k) ∙ after_on n (suc k) ∙ ap (reader_at b) {x = suc k + n} {y = k + suc n} (omega arith)

-- ---- and on a buffer that answers 1 or 2
module _ (b : List ℕ) (refused : ¬ (lowest_code (read_conditions b) ≡ 0)) where
  abbrev begun : model.Reader
  begun = model.start b

  next_other : model.next begun ≡ read_of [] begun
  unfolding model.next model.start
  next_other = go (lowest_code (read_conditions b)) refl
    where
      past : Message → model.Reader
      past m = record { image = b; offset = begun.offset + length m }

      go : (n : ℕ) → n ≡ lowest_code (read_conditions b) → let m = next_message n b begun.offset in read_of m (past m) ≡ read_of [] begun
      go zero e = absurd (refused (sym e))
      go (suc n) e = ap (λ (o : ℕ). read_of [] (record { image = b; offset = o })) {x = begun.offset + 0} {y = begun.offset} (omega arith)

  no_parts : (n : ℕ) → parts_of n begun ≡ replicate n []
  no_parts zero = refl
  no_parts (suc n) = ap (λ (x : model.Read). x.part ∷ parts_of n x.reader) next_other ∙ ap (λ (l : List Message). [] ∷ l) (no_parts n)

  stays : (n : ℕ) → after n begun ≡ begun
  stays zero = refl
  stays (suc n) = ap (λ (x : model.Read). after n x.reader) next_other ∙ stays n

-- past the last message of the log the reader stays
stands_at : (b : List ℕ) (n : ℕ) → log_offset b n ≡ message_offset b (min n (length (log_in b)))
unfolding offset_of
stands_at b n =
    ap (λ (l : List Message). messages_start_in b + sum length l) (take_min n (log_in b)) ∙ log_offset_lem b (min n (length (log_in b))) (omega (arith, log_count_lem b))

-- WHOLE READINGS of the definitions
pub start_is : (b : List ℕ) → length b ≡ image_size → model.start b ≡ reader_at b 0
unfolding model.start
start_is b e =
    ap (λ (n : ℕ). record { image = b; offset = n })
    (ap (λ (c : Bool). cond (not c) 0 (messages_start_in b)) (is_true (eqb (length b) image_size) (eq→eqb e)) ∙ sym (offset_first (messages_start_in b) (log_in b)))

pub whole_reading : (b : List ℕ) (n : ℕ) → WholeReading b n (parts_of n (model.start b)) (after n (model.start b))
whole_reading b n = record {
  of_image = λ accepted. record {
    given = ap (parts_of n) (start_is b (code_image b accepted).0) ∙ parts_on b accepted n 0 ∙ parts_all n (log_in b);
    stands = ap (after n) (start_is b (code_image b accepted).0) ∙ after_on b accepted n 0
        ∙ ap (λ (o : ℕ). record { image = b; offset = o }) (ap (log_offset b) {x = 0 + n} {y = n} (omega arith) ∙ stands_at b n);
    full = full b accepted;
  };
  of_other = λ refused. record { given = no_parts b refused n; stands = stays b refused n };
}

-- and of the code: whatever calls were made, from the start on
called_parts : (parts : List (List ℕ)) (r end : LogReader) → NextCalls r parts end → parts ≡ parts_of (length parts) (reader_of r)
called_parts [] r end c = refl
called_parts (part ∷ parts) r end (mid, c, cs) =
    ap (λ (l : List (List ℕ)). part ∷ l) (called_parts parts mid end cs) ∙ ap (λ (x : model.Read). x.part ∷ parts_of (length parts) x.reader) c

called_after : (parts : List (List ℕ)) (r end : LogReader) → NextCalls r parts end → reader_of end ≡ after (length parts) (reader_of r)
called_after [] r end c = ap reader_of (sym c)
called_after (part ∷ parts) r end (mid, c, cs) = called_after parts mid end cs ∙ ap (λ (x : model.Read). after (length parts) x.reader) c

pub calls_read : (b : List ℕ) (r : LogReader) → Starts b r → (parts : List (List ℕ)) (end : LogReader) → NextCalls r parts end
    → WholeReading b (length parts) parts (reader_of end)
calls_read b r s parts end c =
    let n : ℕ = length parts in
    subst (WholeReading b n parts) (sym (called_after parts r end c ∙ ap (after n) s))
    (subst (λ (l : List (List ℕ)). WholeReading b n l (after n (model.start b))) (sym (called_parts parts r end c ∙ ap (parts_of n) s)) (whole_reading b n))
