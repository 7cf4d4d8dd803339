use Rattle.std.proofs.Common.{take}
use Rattle.std.specs.Fmt.{HasWritten, IsPlainFormatter}
use Rattle.std.specs.List.{flat_map}
use Rattle.loadbar.specs.Listing.{level_text}
use Rattle.loadbar.proofs.listing.LevelsDisplay.fmt.Given as goal

abbrev pub invariant-loop-contender : goal.invariant-loop-contender
invariant-loop-contender g l =
    IsPlainFormatter l.initial.f → HasWritten g.W.Write.write_str_gives l.initial.f (flat_map (level_text l.self.state) (take l.contender-index l.self.contenders.now)) l.f
