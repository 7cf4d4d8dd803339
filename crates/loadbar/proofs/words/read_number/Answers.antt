use Rattle.std.proofs.Common.{rules, Some, sym, ap, ◌∙◌, arith}
use Rattle.std.proofs.lemmas.Bool.{eqb-false}
use Rattle.loadbar.specs.Words.{shifted_on}
use Rattle.loadbar.proofs.Reading.{number_not_empty, shifted_by_try_fold}
use Rattle.loadbar.proofs.words.read_number.Goals as goal

pub returns : goal.returns
returns c =
    shifted_by_try_fold _ _ (λ f n x v f' k. search rules) c.iter.result c.try_fold.new.self _ 0 c.try_fold.result c.try_fold.ensures.ran
    ∙ ap (shifted_on (Some 0)) c.iter.ensures.rest
    ∙ number_not_empty c.args.word.now (omega (arith, eqb-false _ 0 (sym c.if-is_empty.ensures)))
