-- The numbers under which the refusals and slave statuses of a crate's calls are reported: the one place where each gets its number.
use Rattle.std.specs.Prelude.{ℕ}
use Rattle.model.specs.declared.replies.Stop.{Stop}
use Rattle.model.specs.declared.replies.Stop.TheVariants.{Busy, Failure}
use Rattle.model.specs.declared.replies.Status.{Status}
use Rattle.model.specs.declared.replies.Status.TheVariants.{Valid, EndOfBlock, Rejected}
use Rattle.model.specs.declared.replies.Reason.{Reason}
use Rattle.model.specs.declared.replies.Reason.TheVariants.{NoSuchSegment, NoSuchMaster, ModeOutOfRange, NoInterconnect, WishesOrOwns, DoesNotWish, SegmentOwned, NobodyAsks, NotTheOwner, LinkStands, BegunElsewhere, NothingToEnd, NoLink, NoAcknowledge}

-- the number of a refusal
abbrev pub number_of : Reason → ℕ
number_of NoSuchSegment = 7
number_of NoSuchMaster = 8
number_of ModeOutOfRange = 9
number_of NoInterconnect = 10
number_of WishesOrOwns = 20
number_of DoesNotWish = 21
number_of SegmentOwned = 22
number_of NobodyAsks = 23
number_of NotTheOwner = 24
number_of LinkStands = 25
number_of BegunElsewhere = 26
number_of NothingToEnd = 27
number_of NoLink = 27
number_of NoAcknowledge = 28

-- the slave status SS of a data cycle
abbrev pub status_code : Status → ℕ
status_code Valid = 0
status_code EndOfBlock = 2
status_code Rejected = 6

-- the slave status SS of an address that linked
abbrev pub link_code : ℕ
link_code = 0

-- the slave status SS of an address that stopped
abbrev pub stop_code : Stop → ℕ
stop_code Busy = 1
stop_code Failure = 2
