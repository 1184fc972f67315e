-- A piece that a read put behind the bytes that are there, and all pieces together.
use Rattle.std.proofs.Common.{◌≡◌, ℕ, zero, suc, ◌+◌, ◌-◌, ◌≤◌, Bool, true, false, cond, List, [], ◌++◌, Option, None, Some, Result, Ok, Err, arith, length, take, slice_range, sym, ap, ◌∙◌, subst, refl, drop_at, length-take-le}
use Rattle.std.specs.Io.{ReadsAtMost}
use Rattle.std.specs.Io.KnownBytes.{Consumes, Keeps, ReadConsumes}
use Rattle.std.specs.declared.io.Error.{Error}
use Rattle.std.proofs.KnownBytes.{Consumes-trans}
use borrow.Rule.Slice.PartMut.{put_mid, post_of}
use lib.Seq.{take-add, take-append-le}
use Rattle.program_input.specs.Reading.{reading_after}
use Rattle.program_input.specs.Failing.{is_interrupted, errno_of}
use Rattle.program_input.specs.Taken.{TakesPiece}

-- what a piece holds, in the buffer with the piece laid in
piece-put_mid : (a k n : ℕ) (xs ys : List ℕ) → a ≤ length xs → n ≤ length ys → slice_range (put_mid a k xs ys) a (a + n) ≡ take n ys
piece-put_mid a k n xs ys within fits =
    let same : (a + n) - a ≡ n = omega arith in
    let after = post_of a k xs in
    ap (take ((a + n) - a)) (drop_at (take a xs) (ys ++ after) a (length-take-le a xs within)) ∙ ap (λ m. take m (ys ++ after)) same ∙ take-append-le n ys after fits

-- the bytes that are there, and a piece behind them
take_piece : (a b : ℕ) (old new : List ℕ) → a ≤ b → take a new ≡ take a old → take a old ++ slice_range new a b ≡ take b new
take_piece a b old new h front =
    let same : a + (b - a) ≡ b = omega arith in
    ap (λ l. l ++ slice_range new a b) (sym front) ∙ sym (take-add a (b - a) new) ∙ ap (λ n. take n new) same

-- nothing taken
kept-of_none : (old new : Option (List ℕ)) → Consumes old new [] → Keeps old new
kept-of_none None new h = tt
kept-of_none (Some xs) None h = absurd h
kept-of_none (Some xs) (Some ys) h = sym h

consumes_none : (old new : Option (List ℕ)) → Keeps old new → Consumes old new []
consumes_none None new h = tt
consumes_none (Some xs) None h = absurd h
consumes_none (Some xs) (Some ys) h = sym h

-- a piece by what read answered
pub took : (old new : Option (List ℕ)) (at : ℕ) (buf fresh : List ℕ) (answer : Result ℕ Error) (r : Result (Option ℕ) Error) → r ≡ reading_after answer → at ≤ length buf → length fresh ≡ length buf - at → ReadsAtMost answer fresh → ReadConsumes old new answer fresh
    → TakesPiece old new at (length buf) r (put_mid at (length buf - at) buf fresh)
took old new at buf fresh answer r judged within room most piece =
    subst (λ x. TakesPiece old new at (length buf) x (put_mid at (length buf - at) buf fresh)) (sym judged) (go answer most piece)
  where
    put : (n : ℕ) → n ≤ length fresh → Consumes old new (take n fresh) → Consumes old new (slice_range (put_mid at (length buf - at) buf fresh) at (at + n))
    put n fits taken = subst (Consumes old new) (sym (piece-put_mid at (length buf - at) n buf fresh within fits)) taken

    failed : (error : Error) (b : Bool) → Keeps old new → TakesPiece old new at (length buf) (cond b (Ok (Some 0)) (Err error)) (put_mid at (length buf - at) buf fresh)
    failed error true kept = put 0 (omega arith) (consumes_none old new kept)
    failed error false kept = kept

    go : (a : Result ℕ Error) → ReadsAtMost a fresh → ReadConsumes old new a fresh → TakesPiece old new at (length buf) (reading_after a) (put_mid at (length buf - at) buf fresh)
    go (Ok zero) fits taken = (kept-of_none old new taken.0, λ left. taken.1 refl (omega arith))
    go (Ok (suc k)) fits taken = put (suc k) fits.0 taken.0
    go (Err error) fits kept = failed error (is_interrupted (errno_of error)) kept

-- all pieces: those before, and one more
pub took_more : (first old new : Option (List ℕ)) (at n : ℕ) (before after : List ℕ) → at ≤ n → take at after ≡ take at before → Consumes first old (take at before) → Consumes old new (slice_range after at n) → Consumes first new (take n after)
took_more first old new at n before after on same taken piece = subst (Consumes first new) (take_piece at n before after on same) (Consumes-trans first old new _ _ taken piece)
