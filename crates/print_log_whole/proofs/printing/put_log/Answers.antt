-- Log message's code of place 0 tells whether the input is refused, whether its log is empty, or that it has lines.
use Rattle.std.specs.Prelude.{◌≡◌, refl, Bool, true, false, cond, not, List, ◌++◌, ◌∷◌, [], ℕ, zero, suc, ◌+◌, ◌<◌, leb}
use Rattle.std.proofs.Common.{sym, ◌∙◌, arith}
use Rattle.program_decimal.specs.Puts.{numeral, Puts, digits_room}
use Rattle.program_decimal.specs.Front.{Prints}
use Rattle.model.specs.Program.{printed_log}
use Rattle.model.specs.Image.{is_image, log_count}
use Rattle.model.specs.Codes.{wrong_size, lowest_code, read_conditions}
use Rattle.model.specs.Calls.{log_message_code}
use Rattle.refusals.specs.declared.Refusal.{Refusal}
use Rattle.refusals.specs.declared.Refusal.TheVariants as refusal
use Rattle.refusals.specs.Refusals.{code_of}
use Rattle.print_log_walk.specs.CodeLaws.{code_found, code_past}
use Rattle.print_log_whole.specs.AnswerLaws.{prints_lines, prints_code, prints_nothing}
use Rattle.print_log_whole.proofs.printing.put_log.Goals as goal

-- the code is neither 0 nor that of an empty log: the input is refused by it
refused : (b : List ℕ) (n : ℕ) → n ≡ log_message_code b 0 → (n ≡ 0 → ⊥) → (n ≡ 12 → ⊥) → lowest_code (read_conditions b) ≡ n
unfolding log_message_code
refused b n e some other = go (wrong_size b) (not (is_image b)) (leb (log_count b) 0) (sym e)
  where
    go : (wrong other_bytes past : Bool) → ◌≡◌ {A = ℕ} (cond wrong 1 (cond other_bytes 2 (cond past 12 0))) n → ◌≡◌ {A = ℕ} (cond wrong 1 (cond other_bytes 2 0)) n
    go true b past h = h
    go false true past h = h
    go false false true h = absurd (other (sym h))
    go false false false h = h

-- and printed
printed : (b entry exit : List ℕ) (r n k : ℕ) → (n ≡ 0 → ⊥) → lowest_code (read_conditions b) ≡ n → Puts entry 0 k (numeral n ++ 10 ∷ []) r exit → Prints (printed_log b) entry r exit
printed b entry exit r zero k some e p = absurd (some refl)
printed b entry exit r (suc n) k some e p = prints_code b n e p

some_code : (why : Refusal) → 0 < code_of why
some_code refusal.WrongSize = omega arith
some_code refusal.NoImage = omega arith
some_code refusal.WrongLayout = omega arith
some_code refusal.WrongNumber = omega arith
some_code refusal.WrongDependencies = omega arith
some_code refusal.WrongContent = omega arith
some_code refusal.Conflict = omega arith
some_code refusal.Full = omega arith
some_code refusal.HeldLine = omega arith
some_code refusal.PastLimit = omega arith
some_code refusal.ManyDependencies = omega arith
some_code refusal.NotThere = omega arith
some_code refusal.WrongForm = omega arith
some_code refusal.ZeroNumber = omega arith
some_code refusal.PastLog = omega arith
some_code refusal.ManyFloors = omega arith

pub put_lines-requires : goal.put_lines-requires
put_lines-requires c = ((code_found c.args.input.now 0 (sym c.in_default.ensures)).0, omega (arith, c.told-out))

pub returns-in_default : goal.returns-in_default
returns-in_default c = prints_lines c.args.input.now (code_found c.args.input.now 0 (sym c.in_default.ensures)).0 c.put_lines.ensures

pub returns-then-code-eq-EMPTY_LOG : goal.returns-then-code-eq-EMPTY_LOG
returns-then-code-eq-EMPTY_LOG c =
    let b = c.args.input.now in
    let past = code_past b 0 (sym c.in-Err.ensures ∙ sym c.code-code.ensures ∙ c.if-code-eq-EMPTY_LOG.true) in
    prints_nothing b c.args.out.now past.0 past.1

pub returns : goal.returns
returns c =
    let b = c.args.input.now in
    let n = c.code-code.result in
    let is : n ≡ log_message_code b 0 = c.code-code.ensures ∙ c.in-Err.ensures in
    let some : n ≡ 0 → ⊥ = λ e. let z : ⊥ = omega (arith, some_code c.in-Err.why, c.code-code.ensures) in z in
    printed b c.args.out.now c.put_code.new.out c.put_code.result n (digits_room + 1) some (refused b n is some c.if-code-eq-EMPTY_LOG.false) c.put_code.ensures
