-- The answers of the reader and the writer as numbers are the definitions'.
use Rattle.std.specs.Prelude.{◌≡◌, refl, List, ℕ, ◌≤◌, ◌<◌, Result, Ok, Err}
use Rattle.std.proofs.Common.{sym, ◌∙◌, ap, subst, arith}
use Rattle.model.specs.Layout.{text_room}
use Rattle.model.specs.Calls.{Converted}
use Rattle.refusals.specs.declared.Refusal.{Refusal}
use Rattle.text_checks.specs.Answer.{converted_by, buffer_is}
use Rattle.bivamolune_packing.specs.Packing.{packed_length, LengthUnpacks}
use Rattle.bivamolune_packing.specs.PackingLaws.{length_unpacked, why_small}
use Rattle.bivamolune_packing.specs.TextAnswers.{Converts, Short}
use Rattle.bivamolune_packing.specs.Lengths as lengths
use Rattle.bivamolune_packing.specs.Lengths.{number_by}

-- ---- the number of an answer is that of its parts
number_is : (c : Result ℕ Refusal) (buffer : List ℕ) → number_by c ≡ packed_length (converted_by c buffer).code (converted_by c buffer).size
number_is (Ok size) buffer = refl
number_is (Err why) buffer = omega arith

-- its code is a byte
code_small : (c : Result ℕ Refusal) (buffer : List ℕ) → (converted_by c buffer).code < 256
code_small (Ok size) buffer = omega arith
code_small (Err why) buffer = why_small why

short_if : (c : Result ℕ Refusal) (buffer : List ℕ) → (converted_by c buffer).size ≤ text_room → Short c
short_if (Ok size) buffer h = h
short_if (Err why) buffer h = tt

-- a text is no longer than a message may be
pub short_length : (c : Result ℕ Refusal) → Short c → lengths.Short c
short_length (Ok size) h = omega arith
short_length (Err why) h = tt

module _ (x : Converted) (c : Result ℕ Refusal) (exit : List ℕ) (e : converted_by c exit ≡ x) where
  pub short : x.size ≤ text_room → Short c
  short h = short_if c exit (subst (λ (y : Converted). y.size ≤ text_room) (sym e) h)

  pub converts : (r : ℕ) → r ≡ number_by c → Converts x r exit
  converts r p = record {
    packed = is;
    parts = subst (λ (n : ℕ). LengthUnpacks n x.code x.size) (sym is) (length_unpacked x.code x.size (subst (λ (y : Converted). y.code < 256) e (code_small c exit)));
    buffer_after = buffer_is c exit ∙ ap (λ (y : Converted). y.buffer) e;
  }
    where
      is : r ≡ packed_length x.code x.size
      is = p ∙ number_is c exit ∙ ap (λ (y : Converted). packed_length y.code y.size) e
