use Rattle.std.proofs.Common.{rules, codes, length, get_or, refl, ap, sym, arith}
use Rattle.loadbar.specs.Scripts.{access_of}
use Rattle.loadbar.proofs.Spelling.{same_text, other_text}
use Rattle.loadbar.proofs.scripts.read_access.Goals as goal

pub returns-in-prioritised : goal.returns-in-prioritised
returns-in-prioritised c = ap access_of (sym (same_text c.args.word.now (codes "prioritised") (omega arith) (search rules)))

pub returns-in-assured : goal.returns-in-assured
returns-in-assured c = ap access_of (sym (same_text c.args.word.now (codes "assured") (omega arith) (search rules)))

-- all but the last byte is that of `assured`
pub returns-in_default-2 : goal.returns-in_default-2
returns-in_default-2 c =
    let w = c.args.word.now in
    rw (other_text w (codes "prioritised") (λ e. let long = ap length e in omega arith)) (rw (other_text w (codes "assured") (λ e. let last = ap (λ t. get_or t 6 0) e in search rules)) refl)

-- all but the last byte is that of `prioritised`
pub returns-in_default-10 : goal.returns-in_default-10
returns-in_default-10 c =
    let w = c.args.word.now in
    rw (other_text w (codes "prioritised") (λ e. let last = ap (λ t. get_or t 10 0) e in search rules)) (rw (other_text w (codes "assured") (λ e. let short = ap length e in omega arith)) refl)
