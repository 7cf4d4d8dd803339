-- The loop that lets all who wait ask.
use Rattle.std.proofs.Common.{◌≡◌, ℕ, ◌+◌, ◌<◌, ◌≤◌, List, ◌++◌, map, length, get_or, take, drop, set, ◌∙◌, append-nil, arith}
use Rattle.std.proofs.lemmas.List.{get_or_default, take_all, drop_all}
use Rattle.std.proofs.lemmas.List.Edits.{map_over_more}
use Rattle.arbitration.specs.declared.contenders.Contender.{Contender}
use Rattle.arbitration.specs.Contenders.{wake}

-- cs at the start, ds after i turns
module _ (cs ds : List Contender) (i : ℕ) (d : Contender) (lt : i < length cs) (long : length ds ≡ length cs) (inv : ds ≡ map wake (take i cs) ++ drop i cs) where
  pub woke : set ds i (wake (get_or ds i d)) ≡ map wake (take (i + 1) cs) ++ drop (i + 1) cs
  woke = map_over_more wake cs ds i (get_or ds i d) lt inv (get_or_default ds i d (get_or ds i d) (omega arith))

pub all_woken : (cs ds : List Contender) (i : ℕ) → length cs ≤ i → ds ≡ map wake (take i cs) ++ drop i cs → ds ≡ map wake cs
all_woken cs ds i le inv = inv ∙ rw (take_all i cs le, drop_all i cs le) (append-nil (map wake cs))
