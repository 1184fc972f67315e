-- Whole readings, over what the two calls promise: from the start on the reader gives the log's messages in order, and past the last one,
-- or on a buffer that answers 1 or 2, it gives empty parts and stays.
use Rattle.std.specs.Prelude.{◌≡◌, take, replicate}
use mathlib.Core.List.{List, [], ◌∷◌, ◌++◌}
use Prim.Native.Nat.{ℕ, zero, suc, ◌-◌, ◌<◌, min}
use Rattle.std.proofs.Math.ListN.{length}
use Rattle.model.specs.Lists.{◌∈◌}
use Rattle.model.specs.Message.{Message}
use Rattle.model.specs.Image.{messages_start_in, log_in, offset_of, message_offset}
use Rattle.model.specs.Codes.{lowest_code, read_conditions}
use Rattle.model.specs.Calls as model
use Rattle.read_log.specs.declared.reader.LogReader.{LogReader}
use Rattle.read_log.specs.Reader.{Reads}

-- n calls of next, each on the reader as the last one left it: the parts that they give, and the reader that is left.
abbrev pub parts_of : ℕ → model.Reader → List (List ℕ)
parts_of zero r = []
parts_of (suc n) r = (model.next r).part ∷ parts_of n (model.next r).reader

abbrev pub after : ℕ → model.Reader → model.Reader
after zero r = r
after (suc n) r = after n (model.next r).reader

-- The same of the code: calls of `next`, each of which keeps its promise, from one reader to another.
abbrev pub NextCalls : LogReader → List (List ℕ) → LogReader → Type 0
NextCalls r [] end = r ≡ end
NextCalls r (part ∷ parts) end = (mid : LogReader) × Reads r part mid × NextCalls mid parts end

-- ---- what n calls give and leave
pub record OfImage (b : List ℕ) (n : ℕ) (parts : List (List ℕ)) (end : model.Reader) : Type 0 where
  -- the log's messages in order, and then empty parts
  pub given : parts ≡ take n (log_in b) ++ replicate (n - length (log_in b)) []
  -- the reader stands at the next message, and past the last one it stays
  pub stands : end ≡ record { image = b; offset = message_offset b (min n (length (log_in b))) }
  -- no message is empty, so that the first empty part is the end of the log
  pub full : (m : Message) → m ∈ log_in b → 0 < length m

pub record OfOther (b : List ℕ) (n : ℕ) (parts : List (List ℕ)) (end : model.Reader) : Type 0 where
  pub given : parts ≡ replicate n []
  pub stands : end ≡ model.start b

pub record WholeReading (b : List ℕ) (n : ℕ) (parts : List (List ℕ)) (end : model.Reader) : Type 0 where
  pub of_image : lowest_code (read_conditions b) ≡ 0 → OfImage b n parts end
  pub of_other : ¬ (lowest_code (read_conditions b) ≡ 0) → OfOther b n parts end

-- ---- one call of next on a reader at a place of the log
-- (over the log's messages alone: past the last of them nothing is added, and the reader stays)
abbrev pub log_offset : List ℕ → ℕ → ℕ
log_offset b k = offset_of (messages_start_in b) (log_in b) k

abbrev pub reader_at : List ℕ → ℕ → model.Reader
reader_at b k = record { image = b; offset = log_offset b k }
