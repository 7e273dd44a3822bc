use Rattle.std.proofs.Common.{◌≡◌, [], ◌∷◌, length, map, ap, ◌∙◌, sym}
use Rattle.std.proofs.lemmas.Bool.{eqb-true}
use Rattle.std.specs.Str.{chars}
use Rattle.law_terms.specs.Patterns.{matches}
use Rattle.smt_term.specs.PatternView.{plain_part}
use Rattle.law_terms.specs.Plain.{Character, Wildcard}
use Rattle.smt_term.proofs.PatternSearch.{differs, no_chars, no_parts, passed_matches, passes_as, passes_more, passes_none, some_chars}
use Rattle.smt_term.proofs.pattern.front_of.Goals as goal

pub loop-first-init : goal.loop-first-init
loop-first-init c = record { passed = passes_none (map plain_part c.args.elems.now) (chars c.args.text.now); text = c.utf8.text }

pub strip_char-requires-text-text : goal.strip_char-requires-text-text
strip_char-requires-text-text c κs = c.loop-first.invariant.text

pub loop-first-preserved : goal.loop-first-preserved
loop-first-preserved c =
    let e : map plain_part c.loop-first.left.now ≡ Character c.in-Char.c ∷ map plain_part c.in-Some.behind.now = ap (map plain_part) c.in-Some.ensures.cases.0 ∙ ap (λ x. plain_part x ∷ map plain_part c.in-Some.behind.now) c.in-Char.is in
    record {
      passed = passes_more (map plain_part c.args.elems.now) (chars c.args.text.now) c.in-Char.c (map plain_part c.loop-first.left.now) (map plain_part c.in-Some.behind.now) (chars c.loop-first.rest.now) (chars c.in-Some-strip_char.after.now) c.loop-first.invariant.passed e c.in-Some-strip_char.ensures.0;
      text = c.in-Some-strip_char.ensures.1;
    }

pub returns-in-None : goal.returns-in-None
returns-in-None c =
    let e : map plain_part c.loop-first.left.now ≡ Character c.in-Char.c ∷ map plain_part c.in-Some.behind.now = ap (map plain_part) c.in-Some.ensures.cases.0 ∙ ap (λ x. plain_part x ∷ map plain_part c.in-Some.behind.now) c.in-Char.is in
    passed_matches (map plain_part c.args.elems.now) (chars c.args.text.now) (map plain_part c.loop-first.left.now) (chars c.loop-first.rest.now) c.loop-first.invariant.passed
    ∙ (ap (λ l. matches l (chars c.loop-first.rest.now)) e ∙ differs c.in-Char.c (map plain_part c.in-Some.behind.now) (chars c.loop-first.rest.now) (λ rest k. c.in-None.ensures rest k))

pub returns-in-Wildcard : goal.returns-in-Wildcard
returns-in-Wildcard c =
    let e : map plain_part c.loop-first.left.now ≡ Wildcard ∷ map plain_part c.in-Some.behind.now = ap (map plain_part) c.in-Some.ensures.cases.0 ∙ ap (λ x. plain_part x ∷ map plain_part c.in-Some.behind.now) c.in-Wildcard.is in
    (passes_as (map plain_part c.args.elems.now) (chars c.args.text.now) (map plain_part c.loop-first.left.now) (Wildcard ∷ map plain_part c.in-Some.behind.now) (chars c.loop-first.rest.now) c.loop-first.invariant.passed e, c.loop-first.invariant.text)

pub fact_in-rest : goal.fact_in-rest
fact_in-rest c = c.loop-first.invariant.text

pub is_empty-at_end-requires-text-self : goal.is_empty-at_end-requires-text-self
is_empty-at_end-requires-text-self c κs = c.loop-first.invariant.text

pub returns-then-at_end : goal.returns-then-at_end
returns-then-at_end c =
    let empty : length c.loop-first.rest.now ≡ 0 = eqb-true (length c.loop-first.rest.now) 0 (sym c.is_empty-at_end.ensures ∙ c.if-at_end.true) in
    passed_matches (map plain_part c.args.elems.now) (chars c.args.text.now) (map plain_part c.loop-first.left.now) (chars c.loop-first.rest.now) c.loop-first.invariant.passed
    ∙ (ap (λ l. matches l (chars c.loop-first.rest.now)) (no_parts c.loop-first.left.now c.in_default.ensures.cases) ∙ ap (λ r. matches [] r) (no_chars c.loop-first.rest.now empty))

pub returns-else-at_end : goal.returns-else-at_end
returns-else-at_end c =
    passed_matches (map plain_part c.args.elems.now) (chars c.args.text.now) (map plain_part c.loop-first.left.now) (chars c.loop-first.rest.now) c.loop-first.invariant.passed
    ∙ (ap (λ l. matches l (chars c.loop-first.rest.now)) (no_parts c.loop-first.left.now c.in_default.ensures.cases) ∙ some_chars c.loop-first.rest.now c.loop-first.invariant.text (sym c.is_empty-at_end.ensures ∙ c.if-at_end.false))
