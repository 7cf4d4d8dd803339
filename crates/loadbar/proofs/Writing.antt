-- A text that is written again and again. (The library has this lemma for itself alone.)
use Rattle.std.proofs.Common.{◌≡◌, ℕ, zero, suc, ◌+◌, List, ◌++◌, sym, ap, ◌∙◌, append_assoc, append-nil, arith}
use Rattle.std.specs.List.{repeat}

-- once more at the end is once more in front
pub repeat_more : (n : ℕ) (text : List ℕ) → repeat n text ++ text ≡ repeat (n + 1) text
repeat_more zero text = sym (append-nil text)
repeat_more (suc n) text =
    let next : suc (n + 1) ≡ suc n + 1 = omega arith in
    append_assoc text (repeat n text) text ∙ ap (λ t. text ++ t) (repeat_more n text) ∙ ap (λ k. repeat k text) next
