-- What the search for the winner comes to.
use Rattle.std.specs.Prelude.{ℕ, List, Some, None, Option, position}
use Rattle.arbitration.specs.declared.contenders.Contender.{Contender}
use Rattle.arbitration.specs.Rules.{asks_as}

-- the place of the winner w, if there is one
abbrev pub place_of : Option Contender → List Contender → Option ℕ
place_of None cs = None
place_of (Some w) cs = position (asks_as w) cs
