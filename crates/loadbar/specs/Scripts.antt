-- What the words of a line say.
use Rattle.std.specs.Prelude.{◌≡◌, ℕ, if◌then◌else◌, List, Some, None, Ok, Err, codes, Option, Result}
use Rattle.std.specs.Option.{option_and_then, ok_or}
use Rattle.std.specs.Str.{bytes_eq}
use Rattle.arbitration.specs.declared.contenders.Access.{Access}
use Rattle.arbitration.specs.declared.contenders.Access.TheVariants.{Prioritised, Assured}
use Rattle.arbitration.specs.declared.replies.Event.{Event}
use Rattle.arbitration.specs.declared.replies.Event.TheVariants as event
use Rattle.loadbar.specs.declared.scripts.Line.{Line}
use Rattle.loadbar.specs.declared.scripts.Line.TheVariants as line
use Rattle.loadbar.specs.declared.scripts.Unreadable.{Unreadable}
use Rattle.loadbar.specs.declared.scripts.Unreadable.TheVariants.{NoSuchCall, NoLevel, NoAccess, TooManyWords}
use Rattle.loadbar.specs.Words.{uncommented, first_word, rest, number}

-- the access that a word names
abbrev pub access_of : List ℕ → Option Access
access_of w =
    if bytes_eq w (codes "prioritised") then Some Prioritised
    else if bytes_eq w (codes "assured") then Some Assured
    else None

-- the level that a word names, where there is a word and it names one
abbrev pub named : Option (List ℕ) → Result ℕ Unreadable
named w = ok_or (option_and_then number w) NoLevel

-- what was read, where no word follows
abbrev pub if_last : {A : Type 0} → Option (List ℕ) → Result A Unreadable → Result A Unreadable
if_last None r = r
if_last (Some w) r = Err TooManyWords

-- the level that the one word of a text names
abbrev pub sole_level : List ℕ → Result ℕ Unreadable
sole_level t = if_last (first_word (rest t)) (named (first_word t))

-- a contender of a level, where its access can be read
abbrev pub with_access : ℕ → Option Access → Result Line Unreadable
with_access l None = Err NoAccess
with_access l (Some a) = Ok (line.Contender l a)

-- a contender, where its level can be read
abbrev pub with_level : Result ℕ Unreadable → Option Access → Result Line Unreadable
with_level (Err u) a = Err u
with_level (Ok l) a = with_access l a

-- a contender: its level and its access are the two words of a text
abbrev pub contender : List ℕ → Result Line Unreadable
contender t =
    if_last (first_word (rest (rest t)))
    (with_level (named (first_word t)) (option_and_then access_of (first_word (rest t))))

-- a function from levels to events makes e: whatever a call of it on a level may answer is the event e of that level;
-- gives l r: a call on the level l may answer r
abbrev pub Makes : (ℕ → Event → Type 0) → (ℕ → Event) → Type 0
Makes gives e = (l : ℕ) (r : Event) → gives l r → r ≡ e l

-- a call on a level, where the level can be read
abbrev pub call : (ℕ → Event) → Result ℕ Unreadable → Result Line Unreadable
call e (Err u) = Err u
call e (Ok l) = Ok (line.Call (e l))

-- what the first word of a line says with the text behind it
abbrev pub completed : List ℕ → List ℕ → Result Line Unreadable
completed w t =
    if bytes_eq w (codes "contender") then contender t
    else if bytes_eq w (codes "wish") then call event.Wish (sole_level t)
    else if bytes_eq w (codes "withdraw") then call event.Withdraw (sole_level t)
    else if bytes_eq w (codes "arbitrate") then if_last (first_word t) (Ok (line.Call event.Arbitrate))
    else if bytes_eq w (codes "release") then call event.Release (sole_level t)
    else Err NoSuchCall

-- what a line says by its first word, if there is one, and the text behind that
abbrev pub by_word : Option (List ℕ) → List ℕ → Result Line Unreadable
by_word None t = Ok line.Blank
by_word (Some w) t = completed w t

-- what the words of a text say
abbrev pub understood : List ℕ → Result Line Unreadable
understood t = by_word (first_word t) (rest t)

-- what a line says: its words go up to its comment
abbrev pub read : List ℕ → Result Line Unreadable
read l = understood (uncommented l)
