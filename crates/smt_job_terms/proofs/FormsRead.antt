-- What terms are made of, as it is read.
use Rattle.std.proofs.Common.{◌≡◌, ℕ, ◌+◌, ◌<◌, ◌≤◌, List, [], ◌∷◌, ◌++◌, Some, None, Ok, Err, drop, take, get_or, length, map, codes, option_map, refl, sym, ap, ◌∙◌, append-nil}
use Rattle.std.specs.Rc.{rc_str_bytes}
use Rattle.std.specs.declared.alloc.Global.{Global}
use Rattle.std.specs.declared.rc.RcStr.{RcStr}
use Rattle.std.proofs.lemmas.List.{at_drop_more, at_drop_all, map-append}
use Rattle.law_texts.specs.Reading.{Expressions, Cons}
use Rattle.law_terms.specs.Plain.{LiteralTerm, StringLiteral}
use Rattle.smt_sexpr.specs.View.{plain, plain-String, plain_list}
use Rattle.smt_sexpr.specs.declared.expression.SExpr.{SExpr, String}
use Rattle.law_jobs.specs.Outcomes.{followed, FormFault}
use Rattle.law_texts.specs.Outcomes.{◌>>=◌, demanded}
use Rattle.law_texts.specs.Parts.{text_in}
use Rattle.law_jobs.specs.Terms.{field_name, field_names, form_of, new_names, operator_form}
use Rattle.law_jobs.specs.Declarations.{Declared}
use Rattle.smt_job_terms.specs.TermView.{atom_outcome}
use Rattle.smt_sexpr.proofs.Shapes.{text_of_string}
use Rattle.law_texts.proofs.SameTexts.{other_text}
use Rattle.smt_job_terms.proofs.Reading.{behind, nothing_behind, one_behind}

-- ---- names of fields

abbrev pub ReadingNames : (done : List (RcStr Global)) (remaining all : List SExpr) → Type 0
ReadingNames done remaining all = field_names (plain_list all) ≡ behind (map rc_str_bytes done) (field_names (plain_list remaining))

pub no_names_read : (all : List SExpr) → ReadingNames [] all all
no_names_read all = nothing_behind (field_names (plain_list all))

pub all_names : (done : List (RcStr Global)) (all : List SExpr) (i : ℕ) → length all ≤ i → ReadingNames done (drop i all) all → field_names (plain_list all) ≡ Ok (map rc_str_bytes done)
all_names done all i l g = g ∙ ap (behind (map rc_str_bytes done)) (at_drop_all (λ xs. field_names (plain_list xs)) all i l) ∙ ap Ok (append-nil (map rc_str_bytes done))

module _ (done : List (RcStr Global)) (all : List SExpr) (i : ℕ) (item : SExpr) (g : ReadingNames done (drop i all) all) (l : i < length all) (at : item ≡ get_or all i item) where
  this_name : field_names (plain_list all) ≡ behind (map rc_str_bytes done) (demanded FormFault (field_name (plain item)) >>= λ a. followed a (field_names (plain_list (drop (i + 1) all))))
  this_name =
      g ∙ ap (behind (map rc_str_bytes done)) (at_drop_more (λ xs. field_names (plain_list xs)) all i item l ∙ ap (λ x. field_names (Cons (plain x) (plain_list (drop (i + 1) all)))) (sym at))

  pub no_name : field_name (plain item) ≡ None → field_names (plain_list all) ≡ Err FormFault
  no_name h = this_name ∙ ap (λ o. behind (map rc_str_bytes done) (demanded FormFault o >>= λ a. followed a (field_names (plain_list (drop (i + 1) all))))) h

  pub one_name : (a : RcStr Global) (more : List (RcStr Global)) → field_name (plain item) ≡ Some (rc_str_bytes a) → more ≡ done ++ a ∷ [] → ReadingNames more (drop (i + 1) all) all
  one_name a more h is =
      this_name
      ∙ ap (λ o. behind (map rc_str_bytes done) (demanded FormFault o >>= λ a. followed a (field_names (plain_list (drop (i + 1) all))))) h
      ∙ one_behind (map rc_str_bytes done) (rc_str_bytes a) (field_names (plain_list (drop (i + 1) all)))
      ∙ ap (λ ns. behind ns (field_names (plain_list (drop (i + 1) all)))) (sym (map-append rc_str_bytes done (a ∷ [])) ∙ ap (map rc_str_bytes) (sym is))

-- ---- names of which none stands twice

abbrev pub names_in : List (RcStr Global) → List (List ℕ)
names_in xs = map rc_str_bytes xs

-- the first names are new
abbrev pub AreNew : (xs : List (RcStr Global)) (i : ℕ) → Type 0
AreNew xs i = new_names [] (names_in xs) ≡ behind (names_in (take i xs)) (new_names (names_in (take i xs)) (names_in (drop i xs)))

pub none_new : (xs : List (RcStr Global)) → AreNew xs 0
none_new xs = nothing_behind (new_names [] (names_in xs))

-- ---- atoms

pub string_stated : (e : SExpr) (s : RcStr Global) → e ≡ String s → (text : List ℕ) → text ≡ rc_str_bytes s → atom_outcome (plain e) ≡ Ok (LiteralTerm (StringLiteral text))
string_stated e s is text same =
    ap (λ x. atom_outcome (plain x)) is ∙ ap atom_outcome (plain-String s)
    ∙ ap (λ o. demanded FormFault (option_map (λ t. LiteralTerm (StringLiteral t)) o)) (sym (ap text_in (plain-String s)) ∙ sym (text_of_string (String s) s refl))
    ∙ ap (λ t. Ok (LiteralTerm (StringLiteral t))) (sym same)

-- ---- heads

pub other_form : (ds : Declared) (n : List ℕ) (es : Expressions) → (n ≡ codes "var" → ⊥) → (n ≡ codes "bv" → ⊥) → (n ≡ codes "long" → ⊥) → (n ≡ codes "entity" → ⊥) → (n ≡ codes "decimal" → ⊥) → (n ≡ codes "ip" → ⊥) → (n ≡ codes "datetime" → ⊥) → (n ≡ codes "duration" → ⊥) → (n ≡ codes "none" → ⊥) → (n ≡ codes "some" → ⊥) → (n ≡ codes "set" → ⊥)
    → (n ≡ codes "record" → ⊥) → (n ≡ codes "zero_extend" → ⊥) → (n ≡ codes "record.get" → ⊥) → (n ≡ codes "string.like" → ⊥) → (n ≡ codes "uuf" → ⊥) → form_of ds n es ≡ operator_form n
other_form ds n es a b c d e f g h i j k l m o p q =
    rw (
      other_text n (codes "var") a,
      other_text n (codes "bv") b,
      other_text n (codes "long") c,
      other_text n (codes "entity") d,
      other_text n (codes "decimal") e,
      other_text n (codes "ip") f,
      other_text n (codes "datetime") g,
      other_text n (codes "duration") h,
      other_text n (codes "none") i,
      other_text n (codes "some") j,
      other_text n (codes "set") k,
      other_text n (codes "record") l,
      other_text n (codes "zero_extend") m,
      other_text n (codes "record.get") o,
      other_text n (codes "string.like") p,
      other_text n (codes "uuf") q,
    ) refl
