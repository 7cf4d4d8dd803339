-- One bus: lists of events such as one call brings. First perhaps a wish, then perhaps an arbitration, then withdrawals and releases.
use Rattle.std.proofs.Common.{◌≡◌, ℕ, true, List, [], ◌∷◌, ◌++◌, sym, refl, ap, ◌∙◌, append_assoc}
use Rattle.arbitration.specs.declared.replies.Event.{Event}
use Rattle.arbitration.specs.declared.replies.Event.TheVariants.{Wish, Withdraw, Arbitrate, Release}
use Rattle.arbitration.specs.Contenders.{wishes}
use Rattle.arbitration.specs.Rules.{Bus, its, answer, after}
use Rattle.arbitration.specs.Waiting.{after_all, granted_by, grants, WishesThrough}
use Rattle.model.proofs.Buses.{wished_before_withdraw, wished_before_release, wished_before_arbitrate}

-- ---- shapes
-- withdrawals and releases
abbrev pub Leaving : List Event → Type 0
Leaving [] = Unit {0}
Leaving (Wish l ∷ es) = ⊥
Leaving (Withdraw l ∷ es) = Leaving es
Leaving (Arbitrate ∷ es) = ⊥
Leaving (Release l ∷ es) = Leaving es

-- and perhaps an arbitration before them
abbrev pub Trying : List Event → Type 0
Trying [] = Unit {0}
Trying (Wish l ∷ es) = ⊥
Trying (Withdraw l ∷ es) = Leaving es
Trying (Arbitrate ∷ es) = Leaving es
Trying (Release l ∷ es) = Leaving es

-- and perhaps a wish before that
abbrev pub Turning : List Event → Type 0
Turning [] = Unit {0}
Turning (Wish l ∷ es) = Trying es
Turning (Withdraw l ∷ es) = Leaving es
Turning (Arbitrate ∷ es) = Leaving es
Turning (Release l ∷ es) = Leaving es

-- a wish alone, or nothing
abbrev pub Wishing : List Event → Type 0
Wishing [] = Unit {0}
Wishing (Wish l ∷ es) = es ≡ []
Wishing (Withdraw l ∷ es) = ⊥
Wishing (Arbitrate ∷ es) = ⊥
Wishing (Release l ∷ es) = ⊥

pub leaving_append : (es fs : List Event) → Leaving es → Leaving fs → Leaving (es ++ fs)
leaving_append [] fs a b = b
leaving_append (Wish l ∷ es) fs a b = a
leaving_append (Withdraw l ∷ es) fs a b = leaving_append es fs a b
leaving_append (Arbitrate ∷ es) fs a b = a
leaving_append (Release l ∷ es) fs a b = leaving_append es fs a b

leaving_trying : (es : List Event) → Leaving es → Trying es
leaving_trying [] a = tt
leaving_trying (Wish l ∷ es) a = a
leaving_trying (Withdraw l ∷ es) a = a
leaving_trying (Arbitrate ∷ es) a = absurd a
leaving_trying (Release l ∷ es) a = a

pub trying_turning : (es : List Event) → Trying es → Turning es
trying_turning [] a = tt
trying_turning (Wish l ∷ es) a = absurd a
trying_turning (Withdraw l ∷ es) a = a
trying_turning (Arbitrate ∷ es) a = a
trying_turning (Release l ∷ es) a = a

pub leaving_turning : (es : List Event) → Leaving es → Turning es
leaving_turning es a = trying_turning es (leaving_trying es a)

trying_append : (es fs : List Event) → Trying es → Leaving fs → Trying (es ++ fs)
trying_append [] fs a b = leaving_trying fs b
trying_append (Wish l ∷ es) fs a b = a
trying_append (Withdraw l ∷ es) fs a b = leaving_append es fs a b
trying_append (Arbitrate ∷ es) fs a b = leaving_append es fs a b
trying_append (Release l ∷ es) fs a b = leaving_append es fs a b

pub turning_append : (es fs : List Event) → Turning es → Leaving fs → Turning (es ++ fs)
turning_append [] fs a b = leaving_turning fs b
turning_append (Wish l ∷ es) fs a b = trying_append es fs a b
turning_append (Withdraw l ∷ es) fs a b = leaving_append es fs a b
turning_append (Arbitrate ∷ es) fs a b = leaving_append es fs a b
turning_append (Release l ∷ es) fs a b = leaving_append es fs a b

pub wishing_append : (es fs : List Event) → Wishing es → Trying fs → Turning (es ++ fs)
wishing_append [] fs a b = trying_turning fs b
wishing_append (Wish l ∷ es) fs a b = rw a b
wishing_append (Withdraw l ∷ es) fs a b = absurd a
wishing_append (Arbitrate ∷ es) fs a b = absurd a
wishing_append (Release l ∷ es) fs a b = absurd a

pub wishing_turning : (es : List Event) → Wishing es → Turning es
wishing_turning [] a = tt
wishing_turning (Wish l ∷ es) a = rw a tt
wishing_turning (Withdraw l ∷ es) a = absurd a
wishing_turning (Arbitrate ∷ es) a = absurd a
wishing_turning (Release l ∷ es) a = absurd a

-- ---- one list behind another
pub after_append : (es fs : List Event) (b : Bus) → after_all (es ++ fs) b ≡ after_all fs (after_all es b)
after_append [] fs b = refl
after_append (e ∷ es) fs b = after_append es fs (after e b)

pub grants_append : (es fs : List Event) (b : Bus) → grants (es ++ fs) b ≡ grants es b ++ grants fs (after_all es b)
grants_append [] fs b = refl
grants_append (e ∷ es) fs b = ap (λ ls. granted_by (answer e b) ++ ls) (grants_append es fs (after e b)) ∙ sym (append_assoc (granted_by (answer e b)) (grants es (after e b)) (grants fs (after_all es (after e b))))

pub through_append : (x : ℕ) (es fs : List Event) (b : Bus) → WishesThrough x es b → WishesThrough x fs (after_all es b) → WishesThrough x (es ++ fs) b
through_append x [] fs b p q = q
through_append x (e ∷ es) fs b p q = (p.0, through_append x es fs (after e b) p.1 q)

-- ---- whoever wishes at the end wishes all along, from the first event on
abbrev Long : ℕ → List Event → Bus → Type 0
Long x es b = (its x wishes b ≡ true) × WishesThrough x es b

leaving_through : (x : ℕ) (es : List Event) (b : Bus) → Leaving es → its x wishes (after_all es b) ≡ true → Long x es b
leaving_through x [] b a w = (w, tt)
leaving_through x (Wish l ∷ es) b a w = absurd a
leaving_through x (Withdraw l ∷ es) b a w = let r : Long x es (after (Withdraw l) b) = leaving_through x es (after (Withdraw l) b) a w in (wished_before_withdraw l x b r.0, r)
leaving_through x (Arbitrate ∷ es) b a w = absurd a
leaving_through x (Release l ∷ es) b a w = let r : Long x es (after (Release l) b) = leaving_through x es (after (Release l) b) a w in (wished_before_release l x b r.0, r)

trying_through : (x : ℕ) (es : List Event) (b : Bus) → Trying es → its x wishes (after_all es b) ≡ true → Long x es b
trying_through x [] b a w = (w, tt)
trying_through x (Wish l ∷ es) b a w = absurd a
trying_through x (Withdraw l ∷ es) b a w = leaving_through x (Withdraw l ∷ es) b a w
trying_through x (Arbitrate ∷ es) b a w = let r : Long x es (after Arbitrate b) = leaving_through x es (after Arbitrate b) a w in (wished_before_arbitrate x b r.0, r)
trying_through x (Release l ∷ es) b a w = leaving_through x (Release l ∷ es) b a w

pub turning_through : (x : ℕ) (es : List Event) (b : Bus) → Turning es → its x wishes (after_all es b) ≡ true → WishesThrough x es b
turning_through x [] b a w = tt
turning_through x (Wish l ∷ es) b a w = trying_through x es (after (Wish l) b) a w
turning_through x (Withdraw l ∷ es) b a w = (leaving_through x (Withdraw l ∷ es) b a w).1
turning_through x (Arbitrate ∷ es) b a w = (trying_through x (Arbitrate ∷ es) b a w).1
turning_through x (Release l ∷ es) b a w = (leaving_through x (Release l ∷ es) b a w).1
