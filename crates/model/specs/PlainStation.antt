-- The plain station: it is fed each delivery's message and the length of its step buffer, and each purge's K, and keeps a set of messages
-- with its origin.
use Rattle.std.specs.Prelude.{Bool, cond, not, ◌&&◌, ℕ}
use Rattle.model.specs.Message.{Message, passes}
use Rattle.model.specs.Order.{State, take_in}
use Rattle.model.specs.Purge.{purge_first}
use Rattle.model.specs.Codes.{small_steps, conflicts, full, exceeds_log, many_floors}

-- "A delivery is refused if its step buffer is refused by 1, else if the message fails 3 to 6, else if the set has its sequence
-- under other bytes, else if the set has 64 messages and not this sequence."
unfoldable pub accepts : State → Message → ℕ → Bool
accepts S m room = not (small_steps room) && passes m && not (conflicts S m) && not (full S m)

-- "A refused one changes nothing. Any other is accepted, and its message joins the set, where it may be already"; one at or below a floor
-- joins no set.
unfoldable pub receive : State → Message → ℕ → State
receive S m room = cond (accepts S m room) (take_in m S) S

-- "the plain station, fed its K, follows the rules of this paper" (Paper 4): refused if K exceeds its log, else if over 32 floors would result
unfoldable pub accepts_purge : State → ℕ → Bool
accepts_purge S K = not (exceeds_log S K) && not (many_floors S K)

unfoldable pub receive_purge : State → ℕ → State
receive_purge S K = cond (accepts_purge S K) (purge_first K S) S
