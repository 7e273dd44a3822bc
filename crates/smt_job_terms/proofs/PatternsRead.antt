-- Patterns as they are read.
use Rattle.std.proofs.Common.{◌≡◌, ℕ, ◌+◌, ◌<◌, ◌≤◌, List, [], ◌++◌, Option, Some, None, Ok, Err, Result, drop, get_or, length, map, option_map, refl, sym, ap, ◌∙◌, append_assoc, append-nil}
use Rattle.std.specs.Bool.{then_some}
use Rattle.std.specs.Option.{option_and_then}
use Rattle.std.specs.Prelude.{IsOkUnless, OnOk}
use Rattle.std.specs.Rc.{rc_str_bytes}
use Rattle.std.specs.Str.{chars}
use Rattle.std.specs.declared.alloc.Global.{Global}
use Rattle.std.specs.declared.rc.RcStr.{RcStr}
use Rattle.std.specs.declared.vec.Vec.{Vec}
use Rattle.std.proofs.lemmas.List.{at_drop_more, at_drop_all}
use Rattle.std.proofs.lemmas.Str.{IsUtf8-string_bytes, scalars-chars}
use Rattle.smt_term.specs.PatternView.{plain_part}
use Rattle.smt_term.specs.declared.pattern.PatternElem.{PatternElem}
use Rattle.law_terms.specs.Plain.{Character, PatternPart}
use Rattle.law_texts.specs.Reading.{Cons}
use Rattle.smt_sexpr.specs.View.{plain, plain-String, plain_list}
use Rattle.smt_sexpr.specs.declared.expression.SExpr.{SExpr, String}
use Rattle.law_jobs.specs.Terms.{pattern_part, pattern_parts}
use Rattle.smt_job_terms.specs.TermView.{AppendsParts}
use Rattle.smt_job_terms.specs.declared.error.JobError.{JobError}
use Rattle.smt_job_terms.specs.declared.error.JobError.TheVariants.{TooLarge, Parse, TooDeep, BadForm, UnknownName, DuplicateName, BadType, BadWidth, BadLiteral, IllTyped, NotBool, Unbalanced, Memory}

-- what was appended is what is stated
pub appended : (old new : Vec PatternElem Global) (parts : List PatternPart) (stated : Option (List PatternPart)) (r : Result (Unit {0}) JobError) → stated ≡ Some parts
    → OnOk r (map plain_part new.items ≡ map plain_part old.items ++ parts) → IsOkUnless r Memory → AppendsParts old new stated r
appended old new parts stated (Ok u) is h g = (parts, is, h)
appended old new parts stated (Err Memory) is h g = (tt, λ e. absurd (cc))
appended old new parts stated (Err TooLarge) is h g = absurd (cc)
appended old new parts stated (Err (Parse f)) is h g = absurd (cc)
appended old new parts stated (Err TooDeep) is h g = absurd (cc)
appended old new parts stated (Err BadForm) is h g = absurd (cc)
appended old new parts stated (Err (UnknownName n)) is h g = absurd (cc)
appended old new parts stated (Err (DuplicateName n)) is h g = absurd (cc)
appended old new parts stated (Err BadType) is h g = absurd (cc)
appended old new parts stated (Err BadWidth) is h g = absurd (cc)
appended old new parts stated (Err (BadLiteral n)) is h g = absurd (cc)
appended old new parts stated (Err IllTyped) is h g = absurd (cc)
appended old new parts stated (Err NotBool) is h g = absurd (cc)
appended old new parts stated (Err Unbalanced) is h g = absurd (cc)

pub string_parts : (e : SExpr) (s : RcStr Global) → e ≡ String s → pattern_part (plain e) ≡ Some (map Character (chars (rc_str_bytes s)))
string_parts e s is =
    ap (λ x. pattern_part (plain x)) is ∙ ap pattern_part (plain-String s)
    ∙ ap (λ b. then_some b (map Character (chars (rc_str_bytes s)))) (scalars-chars (rc_str_bytes s) (IsUtf8-string_bytes s.text.value))

-- ---- one after the other

-- what is read and what is left are all
abbrev pub ReadingParts : (done : List PatternElem) (remaining all : List SExpr) → Type 0
ReadingParts done remaining all = pattern_parts (plain_list all) ≡ option_map (λ rest. map plain_part done ++ rest) (pattern_parts (plain_list remaining))

pub no_parts_read : (all : List SExpr) → ReadingParts [] all all
no_parts_read all = go (pattern_parts (plain_list all))
  where
    go : (o : Option (List PatternPart)) → o ≡ option_map (λ rest. rest) o
    go (Some parts) = refl
    go None = refl

pub all_parts : (done : List PatternElem) (all : List SExpr) (i : ℕ) → length all ≤ i → ReadingParts done (drop i all) all → pattern_parts (plain_list all) ≡ Some (map plain_part done)
all_parts done all i l g =
    g ∙ ap (option_map (λ rest. map plain_part done ++ rest)) (at_drop_all (λ xs. pattern_parts (plain_list xs)) all i l) ∙ ap Some (append-nil (map plain_part done))

module _ (done : List PatternElem) (all : List SExpr) (i : ℕ) (item : SExpr) (g : ReadingParts done (drop i all) all) (l : i < length all) (at : item ≡ get_or all i item) where
  this_part : pattern_parts (plain_list all) ≡ option_map (λ rest. map plain_part done ++ rest) (option_and_then (λ part. option_map (λ parts. part ++ parts) (pattern_parts (plain_list (drop (i + 1) all)))) (pattern_part (plain item)))
  this_part =
      g
      ∙ ap (option_map (λ rest. map plain_part done ++ rest)) (at_drop_more (λ xs. pattern_parts (plain_list xs)) all i item l ∙ ap (λ x. pattern_parts (Cons (plain x) (plain_list (drop (i + 1) all)))) (sym at))

  pub no_part : pattern_part (plain item) ≡ None → pattern_parts (plain_list all) ≡ None
  no_part h = this_part ∙ ap (λ o. option_map (λ rest. map plain_part done ++ rest) (option_and_then (λ part. option_map (λ parts. part ++ parts) (pattern_parts (plain_list (drop (i + 1) all)))) o)) h

  pub one_part : (parts : List PatternPart) (more : List PatternElem) → pattern_part (plain item) ≡ Some parts → map plain_part more ≡ map plain_part done ++ parts → ReadingParts more (drop (i + 1) all) all
  one_part parts more h is =
      this_part
      ∙ ap (λ o. option_map (λ rest. map plain_part done ++ rest) (option_and_then (λ part. option_map (λ parts. part ++ parts) (pattern_parts (plain_list (drop (i + 1) all)))) o)) h
      ∙ joined (pattern_parts (plain_list (drop (i + 1) all)))
      ∙ ap (λ front. option_map (λ rest. front ++ rest) (pattern_parts (plain_list (drop (i + 1) all)))) (sym is)
    where
      joined : (o : Option (List PatternPart)) → option_map (λ rest. map plain_part done ++ rest) (option_map (λ rest. parts ++ rest) o) ≡ option_map (λ rest. (map plain_part done ++ parts) ++ rest) o
      joined (Some rest) = ap Some (sym (append_assoc (map plain_part done) parts rest))
      joined None = refl
