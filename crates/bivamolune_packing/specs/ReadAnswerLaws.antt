-- The numbers of the reading calls are the definitions', and the C header gives their parts back.
use Rattle.std.specs.Prelude.{◌≡◌, List, ℕ, ◌+◌, ◌*◌, ◌/◌, ◌≤◌, ◌<◌, length, take, drop, ℤ, Result, Ok, Err}
use Rattle.std.proofs.Common.{sym, ◌∙◌, ap, ap₂, subst, arith, length-take, length-drop}
use Rattle.std.specs.Int.Signed.{mag}
use Rattle.model.specs.Bytes.{integer, word}
use Rattle.model.specs.Layout.{image_size}
use Rattle.model.specs.Calls as model
use Rattle.model.specs.Calls.{log_message, setpoint}
use Rattle.laws_wire.specs.BytesLaws.{integer_word}
use Rattle.read_calls.specs.declared.answer.Located.{Located}
use Rattle.refusals.specs.declared.Refusal.{Refusal}
use Rattle.read_calls.specs.Parts.{Part, log_part}
use Rattle.read_calls.specs.Answers.{part_by, setpoint_by}
use Rattle.read_calls.specs.PartCases.{IsPart}
use Rattle.read_calls.proofs.PartCases.{is_part, part_code}
use Rattle.read_calls.specs.ValueCases.{value_fits}
use Rattle.bivamolune_packing.specs.Packing.{code_in}
use Rattle.bivamolune_packing.specs.PackingLaws.{why_small}
use Rattle.bivamolune_packing.specs.ReadAnswers.{part_number, size_in, offset_in, PartSmall, AnswersLogMessage, value_number, value_in, AnswersSetpoint}

-- ---- the parts of a number
part_back : (code offset size : ℕ) → code < 256 → size ≤ image_size
    → (code_in (part_number code offset size) ≡ code) × (offset_in (part_number code offset size) ≡ offset) × (size_in (part_number code offset size) ≡ size)
part_back code offset size c s = (omega arith, omega arith, omega arith)

value_back : (code w : ℕ) → code < 256 → (code_in (code + 4294967296 * w) ≡ code) × ((code + 4294967296 * w) / 4294967296 ≡ w)
value_back code w c = (omega arith, omega arith)

-- ---- log message
part_code_small : (r : Result Located Refusal) → (part_by r).code < 256
part_code_small (Ok located) = omega arith
part_code_small (Err why) = why_small why

module _ (image : List ℕ) (place : ℕ) (l : Result Located Refusal) (e : part_by l ≡ log_part image place) where
  abbrev p : Part
  p = log_part image place

  is : IsPart image place p
  is = is_part image place

  -- the part that was found lies inside
  pub part_small : (offset size : ℕ) → l ≡ Ok (record { offset = offset; size = size }) → PartSmall offset size
  part_small offset size f = record { small = (subst (IsPart image place) (sym e ∙ ap part_by f) is).small }

  -- as long as the message
  size_is : p.size ≡ length (log_message image place)
  size_is = sym (ap length (sym is.bytes) ∙ length-take p.size (drop p.offset image) ∙ omega (arith, length-drop p.offset image, is.inside))

  pub answers_log_message : (r : ℕ) → r ≡ part_number (part_by l).code (part_by l).offset (part_by l).size → AnswersLogMessage image place r
  answers_log_message r f = record {
    answer = number;
    code_back = ap code_in number ∙ back.0 ∙ part_code image place;
    offset_back = ap offset_in number ∙ back.1;
    size_back = ap size_in number ∙ back.2 ∙ size_is;
    part = ap₂ (λ (n o : ℕ). take n (drop o image)) (ap size_in number ∙ back.2) (ap offset_in number ∙ back.1) ∙ is.bytes;
  }
    where
      number : r ≡ part_number p.code p.offset p.size
      number = f ∙ ap (λ (x : Part). part_number x.code x.offset x.size) e

      back : (code_in (part_number p.code p.offset p.size) ≡ p.code) × (offset_in (part_number p.code p.offset p.size) ≡ p.offset) × (size_in (part_number p.code p.offset p.size) ≡ p.size)
      back = part_back p.code p.offset p.size (subst (λ (x : Part). x.code < 256) e (part_code_small l)) (omega (arith, is.small))

-- ---- setpoint
value_code_small : (r : Result ℤ Refusal) → (setpoint_by r).code < 256
value_code_small (Ok v) = omega arith
value_code_small (Err why) = why_small why

-- a value that was read fits 32 bits
pub read_fits : (image : List ℕ) (tag : ℕ) (v : ℤ) → setpoint_by (Ok v) ≡ setpoint image tag → mag v < 2147483648
read_fits image tag v e = subst (λ (x : model.Setpoint). mag x.value < 2147483648) (sym e) (value_fits image tag)

pub answers_setpoint : (image : List ℕ) (tag : ℕ) (d : Result ℤ Refusal) → setpoint_by d ≡ setpoint image tag → (r : ℕ) → r ≡ value_number (setpoint_by d).code (setpoint_by d).value → AnswersSetpoint image tag r
answers_setpoint image tag d e r f = record {
  answer = number;
  code_back = ap code_in number ∙ back.0;
  value_back = ap value_in number ∙ ap integer back.1 ∙ (integer_word s.value (value_fits image tag)).1;
}
  where
    s : model.Setpoint
    s = setpoint image tag

    number : r ≡ value_number s.code s.value
    number = f ∙ ap (λ (x : model.Setpoint). value_number x.code x.value) e

    back : (code_in (value_number s.code s.value) ≡ s.code) × (value_number s.code s.value / 4294967296 ≡ word s.value)
    back = value_back s.code (word s.value) (subst (λ (x : model.Setpoint). x.code < 256) e (value_code_small d))
