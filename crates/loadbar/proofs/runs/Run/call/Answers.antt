use Rattle.std.proofs.Common.{rules}
use Rattle.arbitration.specs.Rules.{answer}
use Rattle.loadbar.proofs.Telling.{plain_of}
use Rattle.loadbar.proofs.runs.Run.call.Goals as goal

pub returns-clause-text : goal.returns-clause-text
returns-clause-text c =
    let told = plain_of c.args.self.now.segment.number c.apply-answer.result (answer c.args.event c.args.self.now.segment) c.apply-answer.ensures.happens.answered in
    search rules
