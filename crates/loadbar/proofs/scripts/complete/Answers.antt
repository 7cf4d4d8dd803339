use Rattle.std.proofs.Common.{codes, rules, sym, ap, ◌∙◌, arith}
use Rattle.arbitration.specs.declared.replies.Event.TheVariants.{Wish, Withdraw, Release}
use Rattle.loadbar.specs.Scripts.{completed}
use Rattle.loadbar.proofs.Spelling.{same_text}
use Rattle.loadbar.proofs.scripts.complete.Goals as goal

pub returns-in-contender : goal.returns-in-contender
returns-in-contender c = search (rules, same_text)

pub returns-in-wish : goal.returns-in-wish
returns-in-wish c = c.read_call.ensures Wish (λ l r k. search rules) ∙ ap (λ w. completed w c.args.words) (sym (same_text c.args.verb.now (codes "wish") (omega arith) (search rules)))

pub returns-in-withdraw : goal.returns-in-withdraw
returns-in-withdraw c = c.read_call-in-withdraw.ensures Withdraw (λ l r k. search rules) ∙ ap (λ w. completed w c.args.words) (sym (same_text c.args.verb.now (codes "withdraw") (omega arith) (search rules)))

pub returns-in-arbitrate : goal.returns-in-arbitrate
returns-in-arbitrate c = search (rules, same_text)

pub returns-in-release : goal.returns-in-release
returns-in-release c = c.read_call-in-release.ensures Release (λ l r k. search rules) ∙ ap (λ w. completed w c.args.words) (sym (same_text c.args.verb.now (codes "release") (omega arith) (search rules)))
