use Rattle.arbitration.proofs.Winning.{answered_if_free_and_asked, highest_asker_wins}
use Rattle.arbitration.proofs.bus.Segment.arbitrate.Goals as goal

pub returns-clause-answered_if_free_and_asked : goal.returns-clause-answered_if_free_and_asked
returns-clause-answered_if_free_and_asked c = answered_if_free_and_asked c.args.self.now

pub returns-clause-highest_asker_wins : goal.returns-clause-highest_asker_wins
returns-clause-highest_asker_wins c = highest_asker_wins c.args.self.now
