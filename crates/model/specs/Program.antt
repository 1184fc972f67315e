-- The programs, each as a function from the bytes of its input to the bytes that it prints: the listing, `sequences`, and `print_log`.
use Rattle.std.specs.Prelude.{Bool, cond, ◌&&◌, ◌||◌, List, [], ◌∷◌, ◌++◌, map, ℕ, zero, suc, ◌+◌, ◌-◌, ◌/◌, ◌%◌, length, take, drop, get_or, replicate, eqb, ltb, leb, ℤ, pos, negsuc}
use Rattle.model.specs.Lists.{every}
use Rattle.model.specs.Bytes.{field, join}
use Rattle.model.specs.Layout.{length_at, sequence_at, sequence_size, tag_at, step_room, input_limit, shortest_cut, longest_cut, sequences_room, text_room}
use Rattle.model.specs.Message.{Message, commands_of, value_of}
use Rattle.model.specs.Image.{image_of, log_count, held_count, log_in, message_offset}
use Rattle.model.specs.Text.{characters_of, text_of, sequence_bytes_in}
use Rattle.model.specs.Codes.{lowest_code, read_conditions, read_sequences_conditions, write_sequences_conditions}
use Rattle.model.specs.Calls.{empty_state, deliver}

-- A number in decimal: its last `n` digits, without zeros in front. No number that is printed has more than seven.
abbrev pub digits : ℕ → ℕ → List ℕ
digits zero x = []
digits (suc n) x = cond (ltb x 10) [] (digits n (x / 10)) ++ (48 + x % 10) ∷ []

abbrev pub decimal : ℕ → List ℕ
decimal x = digits 7 x

-- "Each line: message number from 1, code, undos, executions."
unfoldable pub printed_line : ℕ → ℕ → ℕ → ℕ → List ℕ
printed_line n code undos executions = decimal n ++ 32 ∷ decimal code ++ 32 ∷ decimal undos ++ 32 ∷ decimal executions ++ 10 ∷ []

-- "the word log, L, the word held, H"
unfoldable pub last_line : List ℕ → List ℕ
last_line b = 108 ∷ 111 ∷ 103 ∷ 32 ∷ decimal (log_count b) ++ 32 ∷ 104 ∷ 101 ∷ 108 ∷ 100 ∷ 32 ∷ decimal (held_count b) ++ 10 ∷ []

-- "A cut outside 48..200 or past the end, or a rest of one to five bytes"
unfoldable pub bad_cut : List ℕ → Bool
bad_cut rest =
    let size = field rest length_at 2 in
    ltb (length rest) (length_at + 2) || ltb size shortest_cut || ltb longest_cut size || ltb (length rest) size

abbrev pub step_buffer : List ℕ
step_buffer = replicate step_room 0

-- The lines from message `n` on, of what is left of the input: at most `most` messages.
unfoldable pub lines_from : ℕ → ℕ → List ℕ → List ℕ → List ℕ
lines_from zero n b rest = last_line b
lines_from (suc most) n b [] = last_line b
lines_from (suc most) n b (x ∷ rest) =
    let left = x ∷ rest in
    let a = deliver b (take (field left length_at 2) left) step_buffer in
    let more = lines_from most (suc n) a.image (drop (field left length_at 2) left) in
    cond (bad_cut left) (printed_line n 3 0 0 ++ last_line b) (printed_line n a.code a.undos a.executions ++ more)

-- "up to 60,000 bytes (any beyond are dropped)"
unfoldable pub listing : List ℕ → List ℕ
listing input = let read = take input_limit input in lines_from (length read) 1 (image_of empty_state) read

-- ---- the program `sequences`: sequences in either form, printed in the other
abbrev pub line_feed : ℕ
line_feed = 10

-- An input is a text if it is printable, but for a line feed at its end.
abbrev pub printable : ℕ → Bool
printable c = leb 32 c && leb c 126

unfoldable pub without_line_feed : List ℕ → List ℕ
without_line_feed input = cond (eqb (get_or input (length input - 1) 0) line_feed) (take (length input - 1) input) input

-- The code, and what is printed: nothing beside a refusal.
pub record Printed : Type 0 where
  pub code : ℕ
  pub output : List ℕ

abbrev pub printed : ℕ → List ℕ → Printed
printed zero output = record { code = 0; output = output }
printed (suc n) output = record { code = suc n; output = [] }

-- A text becomes sequences, and sequences become a line of text: by the reader's and the writer's rules, with room enough.
abbrev pub printed_sequences : List ℕ → Printed
printed_sequences t = printed (lowest_code (read_sequences_conditions t sequences_room)) (sequence_bytes_in t)

abbrev pub printed_text : List ℕ → Printed
printed_text b = printed (lowest_code (write_sequences_conditions b text_room)) (text_of b ++ line_feed ∷ [])

unfoldable pub other_form : List ℕ → Printed
other_form input =
    let text = without_line_feed input in
    cond (every printable text) (printed_sequences text) (printed_text input)

-- ---- the program `print_log`: the log that stands in an image. What is quoted here is its own text, docs/print-log.md.
-- "a negative value has `-` before its digits"
unfoldable pub printed_value : ℤ → List ℕ
printed_value (pos n) = decimal n
printed_value (negsuc n) = 45 ∷ decimal (suc n)

-- "for each of its commands, in order, the tag and the command's own value"
unfoldable pub printed_command : List ℕ → List ℕ
printed_command c = 32 ∷ decimal (field c tag_at 1) ++ 32 ∷ printed_value (value_of c)

abbrev pub printed_commands : List (List ℕ) → List ℕ
printed_commands l = join (map printed_command l)

-- "the place in the log, from 0; the offset in the image at which the message starts; the message's length; its sequence"
unfoldable pub log_line : ℕ → ℕ → Message → List ℕ
log_line place offset m =
    decimal place ++ 32 ∷ decimal offset ++ 32 ∷ decimal (length m) ++ 32 ∷ characters_of (take sequence_size (drop sequence_at m))
    ++ printed_commands (commands_of m) ++ 10 ∷ []

-- "one line for each message of the log, from first to last": those from a place on.
abbrev pub log_lines : List ℕ → ℕ → List Message → List ℕ
log_lines b place [] = []
log_lines b place (m ∷ l) = log_line place (message_offset b place) m ++ log_lines b (suc place) l

-- "Refused: standard output has the code in decimal and a line feed"
abbrev pub log_answer : ℕ → List ℕ → List ℕ
log_answer zero b = log_lines b 0 (log_in b)
log_answer (suc n) b = decimal (suc n) ++ 10 ∷ []

unfoldable pub printed_log : List ℕ → List ℕ
printed_log input = log_answer (lowest_code (read_conditions input)) input
