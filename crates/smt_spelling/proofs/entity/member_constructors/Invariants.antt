use Rattle.std.proofs.Common.{◌≡◌, ◌++◌, drop, map}
use Rattle.law_texts.specs.SharedTexts.{texts}
use Rattle.smt_term.specs.TextSets.{texts_of}
use Rattle.law_lines.specs.Line.{spelled_constructor}
use Rattle.law_lines.specs.LineForms.{member_constructors}
use Rattle.smt_spelling.proofs.entity.member_constructors.Given as goal

-- what is made so far and what is left are all
abbrev pub invariant-loop-place : goal.invariant-loop-place
invariant-loop-place l = texts l.constructors.items ++ map spelled_constructor (member_constructors l.name l.place (drop l.place (texts_of l.members))) ≡ map spelled_constructor (member_constructors l.name 0 (texts_of l.members))
