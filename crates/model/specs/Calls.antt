-- The calls: from a call's arguments to its answer and to every byte of the buffers that it may write.
-- A refusal writes nothing, and its counts, size and value are 0. A buffer that a call only reads is not in its answer.
use Rattle.std.specs.Prelude.{cond, List, [], ◌∷◌, ◌++◌, ℕ, zero, suc, ◌+◌, length, take, drop, get_or, eqb, ℤ, pos}
use Rattle.model.specs.Bytes.{number}
use Rattle.model.specs.Message.{Message}
use Rattle.model.specs.Order.{State, state_of, take_in, sequences_of, log_of}
use Rattle.model.specs.Setpoints.{setpoints_of}
use Rattle.model.specs.Purge.{purge_first}
use Rattle.model.specs.Image.{image_of, messages_start_in, state_in, log_in}
use Rattle.model.specs.Steps.{undos_of, executions_of, records_between, records_bytes}
use Rattle.model.specs.Compose.{composed}
use Rattle.model.specs.Text.{text_of, sequence_bytes_in}
use Rattle.model.specs.Codes.{lowest_code, wrong_size, empty_conditions, deliver_conditions, compose_conditions, read_conditions, log_message_conditions, setpoint_conditions, purge_conditions, read_sequences_conditions, write_sequences_conditions}

-- New bytes at the front of a buffer, the rest unchanged.
abbrev pub written : List ℕ → List ℕ → List ℕ
written new buffer = new ++ drop (length new) buffer

-- ---- empty: "writes the image of no deltas"
pub record Emptied : Type 0 where
  pub code : ℕ
  pub image : List ℕ

abbrev pub empty_state : State
empty_state = state_of []

abbrev pub empty_answer : ℕ → List ℕ → Emptied
empty_answer zero b = record { code = 0; image = image_of empty_state }
empty_answer (suc n) b = record { code = suc n; image = b }

unfoldable pub empty : List ℕ → Emptied
empty b = empty_answer (lowest_code (empty_conditions b)) b

-- ---- deliver: image, message and step buffer
pub record Delivered : Type 0 where
  pub code : ℕ
  pub undos : ℕ
  pub executions : ℕ
  pub image : List ℕ
  pub steps : List ℕ

-- From one state to the next.
abbrev pub accepted_answer : State → State → List ℕ → Delivered
accepted_answer S next steps =
    let old = sequences_of (log_of S) in
    let new = sequences_of (log_of next) in
    record {
      code = 0;
      undos = undos_of old new;
      executions = executions_of old new;
      image = image_of next;
      steps = written (records_bytes (records_between S next)) steps;
    }

abbrev pub deliver_answer : ℕ → State → List ℕ → Message → List ℕ → Delivered
deliver_answer zero S b m steps = accepted_answer S (take_in m S) steps
deliver_answer (suc n) S b m steps = record { code = suc n; undos = 0; executions = 0; image = b; steps = steps }

unfoldable pub deliver_code : List ℕ → Message → ℕ → ℕ
deliver_code b m room = lowest_code (deliver_conditions b m room)

unfoldable pub deliver : List ℕ → Message → List ℕ → Delivered
deliver b m steps = deliver_answer (deliver_code b m (length steps)) (state_in b) b m steps

-- ---- purge: image and K; "drops the first K log messages and frees their bytes"
pub record Purged : Type 0 where
  pub code : ℕ
  pub image : List ℕ

abbrev pub purge_answer : ℕ → State → List ℕ → ℕ → Purged
purge_answer zero S b K = record { code = 0; image = image_of (purge_first K S) }
purge_answer (suc n) S b K = record { code = suc n; image = b }

unfoldable pub purge_code : List ℕ → ℕ → ℕ
purge_code b K = lowest_code (purge_conditions b K)

unfoldable pub purge : List ℕ → ℕ → Purged
purge b K = purge_answer (purge_code b K) (state_in b) b K

-- ---- compose: image, line, commands, flag, priority and message buffer; the image is only read
pub record Composed : Type 0 where
  pub code : ℕ
  pub size : ℕ
  pub message : List ℕ

abbrev pub compose_answer : ℕ → Message → List ℕ → Composed
compose_answer zero m buffer = record { code = 0; size = length m; message = written m buffer }
compose_answer (suc n) m buffer = record { code = suc n; size = 0; message = buffer }

unfoldable pub compose_code : List ℕ → List ℕ → List ℕ → ℕ → ℕ → ℕ → ℕ
compose_code b line commands flag priority room = lowest_code (compose_conditions b line commands flag priority room)

unfoldable pub compose : List ℕ → List ℕ → List ℕ → ℕ → ℕ → List ℕ → Composed
compose b line commands flag priority buffer =
    compose_answer (compose_code b line commands flag priority (length buffer)) (composed (state_in b) (number line) commands (eqb flag 1) priority) buffer

-- ---- log message: the bytes of the part that holds the message at a place, and the second call, which gives the code
unfoldable pub log_message_code : List ℕ → ℕ → ℕ
log_message_code b place = lowest_code (log_message_conditions b place)

unfoldable pub log_message : List ℕ → ℕ → List ℕ
log_message b place = cond (eqb (log_message_code b place) 0) (get_or (log_in b) place []) []

-- ---- setpoint: "answers a tag's value, or 0 beside a refusal"
pub record Setpoint : Type 0 where
  pub code : ℕ
  pub value : ℤ

abbrev pub setpoint_answer : ℕ → List ℕ → ℕ → Setpoint
setpoint_answer zero b tag = record { code = 0; value = get_or (setpoints_of (state_in b)) tag (pos 0) }
setpoint_answer (suc n) b tag = record { code = suc n; value = pos 0 }

unfoldable pub setpoint : List ℕ → ℕ → Setpoint
setpoint b tag = setpoint_answer (lowest_code (setpoint_conditions b tag)) b tag

-- ---- the log reader: "keeps the lent image together with the offset of the next message"
pub record Reader : Type 0 where
  pub image : List ℕ
  pub offset : ℕ

pub record Read : Type 0 where
  pub part : List ℕ
  pub reader : Reader

-- "It starts at the first message of the log." On a buffer that is no image the papers leave the offset free: of another size it is 0, else
-- where the messages would start by the number of floors; the reader stays there.
unfoldable pub start : List ℕ → Reader
start b = record { image = b; offset = cond (wrong_size b) 0 (messages_start_in b) }

-- The message of a list that lies at an offset, the first of them at `at`; empty where none does.
abbrev pub message_at : ℕ → List Message → ℕ → Message
message_at at [] offset = []
message_at at (m ∷ l) offset = cond (eqb at offset) m (message_at (at + length m) l offset)

-- "Past the last one of the log, or on a buffer that answers 1 or 2, it gives an empty part and stays there."
abbrev pub next_message : ℕ → List ℕ → ℕ → Message
next_message zero b offset = message_at (messages_start_in b) (log_in b) offset
next_message (suc n) b offset = []

unfoldable pub next : Reader → Read
next r =
    let m = next_message (lowest_code (read_conditions r.image)) r.image r.offset in
    record { part = m; reader = record { image = r.image; offset = r.offset + length m } }

-- ---- read sequences and write sequences: from a text to sequences, and back; what is read, and an output buffer
pub record Converted : Type 0 where
  pub code : ℕ
  pub size : ℕ
  pub buffer : List ℕ

abbrev pub converted_answer : ℕ → List ℕ → List ℕ → Converted
converted_answer zero new buffer = record { code = 0; size = length new; buffer = written new buffer }
converted_answer (suc n) new buffer = record { code = suc n; size = 0; buffer = buffer }

-- what a call wrote
abbrev pub front : Converted → List ℕ
front a = take a.size a.buffer

unfoldable pub read_sequences : List ℕ → List ℕ → Converted
read_sequences t buffer = converted_answer (lowest_code (read_sequences_conditions t (length buffer))) (sequence_bytes_in t) buffer

unfoldable pub write_sequences : List ℕ → List ℕ → Converted
write_sequences b buffer = converted_answer (lowest_code (write_sequences_conditions b (length buffer))) (text_of b) buffer
