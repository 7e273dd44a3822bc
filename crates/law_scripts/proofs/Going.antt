-- Samples go on line by line, each command well sorted by what is declared before it.
use Rattle.std.proofs.Common.{◌≡◌, ℕ, List, [], ◌∷◌, ◌++◌, refl, Some}
use Rattle.std.specs.Prelude.{codes, not, IsTrue}
use Rattle.std.specs.List.{list_all}
use Rattle.law_texts.specs.Lexicon.{is_line_end}
use Rattle.law_texts.specs.Reading.{Expression}
use Rattle.law_scripts.specs.Script.{Command, State, HasWholeLines, start, step}
use Rattle.law_scripts.specs.Written.{IsLine}
use Rattle.law_scripts.specs.CommandLines.{Part, SortedScript, IsSortedCommand}
use Rattle.law_scripts.proofs.Append.{whole_append}
use Rattle.law_scripts.proofs.Lines.{comments_are_lines}
use Rattle.law_scripts.proofs.Laid.{sorted_lines_add, sorted_comments_add}

abbrev pub part : List ℕ → Expression → Part
part t e = record { text = t; expr = e }

-- a whole text that is a well-sorted script
pub record Goes (text : List ℕ) (s : State) : Type 0 where
  pub whole : HasWholeLines text
  pub sorted : SortedScript text s

line_whole : (line : List ℕ) (cs : List Command) → IsLine line cs → HasWholeLines line
line_whole [] cs h = tt
line_whole (b ∷ line) cs h = h.ends

pub goes : (text line : List ℕ) (c : Command) (s t : State) → Goes text s → IsLine line (c ∷ []) → step c s ≡ Some t → IsSortedCommand s c → Goes (text ++ line) t
goes text line c s t g h e k = record { whole = whole_append text line g.whole (line_whole line (c ∷ []) h); sorted = sorted_lines_add text line c s t g.whole g.sorted h e k }

pub comment_goes : (text comment : List ℕ) (s : State) → Goes text s → IsTrue (list_all (λ b. not (is_line_end b)) comment) → Goes (text ++ (codes ";" ++ comment ++ codes "\n")) s
comment_goes text comment s g h =
    let l = comments_are_lines comment h in
    record { whole = whole_append text _ g.whole (line_whole _ [] l); sorted = sorted_comments_add text _ s g.whole g.sorted l }

pub begins : Goes [] start
begins = record { whole = tt; sorted = record { script = record { commands = []; holds = record { reads = record { pieces = []; cut = record { spelled = refl; longest = refl }; tokens_are = refl }; plain = refl }; runs = refl }; sorted = tt } }
