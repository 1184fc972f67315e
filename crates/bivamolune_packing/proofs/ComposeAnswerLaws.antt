-- The answers of compose as numbers are the definitions'.
use Rattle.std.specs.Prelude.{◌≡◌, refl, List, ℕ, zero, suc, ◌≤◌, ◌<◌, length, drop, T, eqb, Result, Ok, Err}
use Rattle.std.proofs.Common.{sym, ◌∙◌, ap, subst, arith, take_at}
use Rattle.model.specs.Bytes.{number}
use Rattle.model.specs.Layout.{message_room}
use Rattle.model.specs.Message.{Message, passes}
use Rattle.model.specs.Image.{state_in}
use Rattle.model.specs.Compose.{composed}
use Rattle.model.specs.Calls.{Composed, compose_answer, compose_code, compose}
use Rattle.laws_wire.specs.MessageLaws.{passes_sized, sized_range}
use Rattle.laws_compose.specs.ComposeLaws.{Promised, compose_promise, message_by}
use Rattle.refusals.specs.declared.Refusal.{Refusal}
use Rattle.compose_message.specs.Answer.{composed_by}
use Rattle.bivamolune_packing.specs.Packing.{packed_length, LengthUnpacks}
use Rattle.bivamolune_packing.specs.PackingLaws.{length_unpacked, why_small}
use Rattle.bivamolune_packing.specs.ComposeAnswers.{Composes}
use Rattle.bivamolune_packing.specs.Lengths.{number_by, Short}

-- ---- a written message passes 3 to 6, and so is at most 200 bytes long
compose_short : (b line commands : List ℕ) (flag priority : ℕ) (buffer : List ℕ) → (compose b line commands flag priority buffer).size ≤ message_room
unfolding compose
compose_short b line commands flag priority buffer = go (compose_code b line commands flag priority (length buffer)) (compose_promise b line commands flag priority buffer)
  where
    m : Message
    m = composed (state_in b) (number line) commands (eqb flag 1) priority

    go : (n : ℕ) → ((compose_answer n m buffer).code ≡ 0 → Promised b (message_by (compose_answer n m buffer))) → (compose_answer n m buffer).size ≤ message_room
    go zero f =
        let t : T (passes m) = subst (λ (x : Message). T (passes x)) (take_at m (drop (length m) buffer) (length m) refl) (f refl).passes_all in
        (sized_range m (passes_sized m t)).1
    go (suc n) f = omega arith

-- ---- the number of an answer is that of its parts
number_is : (c : Result ℕ Refusal) (message : List ℕ) → number_by c ≡ packed_length (composed_by c message).code (composed_by c message).size
number_is (Ok size) message = refl
number_is (Err why) message = omega arith

message_is : (c : Result ℕ Refusal) (message : List ℕ) → message ≡ (composed_by c message).message
message_is (Ok size) message = refl
message_is (Err why) message = refl

-- its code is a byte
code_small : (c : Result ℕ Refusal) (message : List ℕ) → (composed_by c message).code < 256
code_small (Ok size) message = omega arith
code_small (Err why) message = why_small why

short_if : (c : Result ℕ Refusal) (message : List ℕ) → (composed_by c message).size ≤ message_room → Short c
short_if (Ok size) message h = h
short_if (Err why) message h = tt

module _ (image line commands : List ℕ) (flag priority : ℕ) (message : List ℕ) (c : Result ℕ Refusal) (exit : List ℕ) (e : composed_by c exit ≡ compose image line commands flag priority message) where
  abbrev x : Composed
  x = compose image line commands flag priority message

  pub short : Short c
  short = short_if c exit (subst (λ (y : Composed). y.size ≤ message_room) (sym e) (compose_short image line commands flag priority message))

  pub composes : (r : ℕ) → r ≡ number_by c → Composes image line commands flag priority message r exit
  composes r p = record {
    answer = is;
    parts = subst (λ (n : ℕ). LengthUnpacks n x.code x.size) (sym is) (length_unpacked x.code x.size (subst (λ (y : Composed). y.code < 256) e (code_small c exit)));
    message_after = message_is c exit ∙ ap (λ (y : Composed). y.message) e;
  }
    where
      is : r ≡ packed_length x.code x.size
      is = p ∙ number_is c exit ∙ ap (λ (y : Composed). packed_length y.code y.size) e
