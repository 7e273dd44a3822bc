-- The enum types of a job, as they are entered one after the other.
use Rattle.std.proofs.Common.{◌≡◌, ℕ, ◌+◌, ◌<◌, ◌≤◌, Bool, true, false, cond, is_some, not, List, [], ◌∷◌, ◌++◌, Option, Some, None, bytes_eq, drop, get_or, length, map, refl, sym, ap, ◌∙◌, subst, append-nil, Ok, Err, Result}
use Rattle.std.specs.Prelude.{IsErrAnd}
use Rattle.std.specs.Bool.{OnTrue}
use Rattle.std.specs.BTreeMap.{insert_entry}
use Rattle.std.specs.Map.{update}
use Rattle.std.specs.Rc.{rc_str_bytes}
use Rattle.std.specs.declared.alloc.Global.{Global}
use Rattle.std.specs.declared.rc.RcStr.{RcStr}
use Rattle.std.proofs.lemmas.Cmp.{nat_list_cmp_total}
use Rattle.std.proofs.lemmas.List.{at_drop_more, at_drop_all, map-append}
use Rattle.std.proofs.lemmas.Slice.Eq.{bytes_eq-Decides}
use Rattle.law_lines.proofs.Making.{lookup_new, lookup_other}
use Rattle.law_terms.specs.TypeValues.{Enums, members_of}
use Rattle.law_terms.specs.ValueOrder.{sorted, text_cmp}
use Rattle.law_terms.proofs.ValueOrder.{text_same}
use Rattle.smt_term.specs.Enums.{enums_of}
use Rattle.smt_term.specs.declared.enums.EnumTable.{EnumTable}
use Rattle.smt_term.proofs.SortedPairs.{sorted-push}
use Rattle.law_texts.specs.Reading.{Cons}
use Rattle.smt_sexpr.specs.View.{plain, plain_list}
use Rattle.smt_sexpr.specs.declared.expression.SExpr.{SExpr}
use Rattle.law_jobs.specs.Outcomes.{JobFault, Outcome, followed, DuplicateFault, FormFault}
use Rattle.law_texts.specs.Outcomes.{◌>>=◌, demanded}
use Rattle.law_texts.specs.Parts.{text_in}
use Rattle.law_jobs.specs.Declarations.{Declarations, declared, declared_by, unless_declared}
use Rattle.law_jobs.specs.Enums.{enum_of, enums_in, new_enum, texts_in}
use Rattle.smt_job_terms.specs.EnumView.{HasEnums}
use Rattle.smt_job_terms.specs.DeclarationView.{DeclaresNext}
use Rattle.smt_job_terms.specs.ReadAs.{IsFault, IsFaultIn, IsReadAs}
use Rattle.smt_job_terms.specs.declared.error.JobError.{JobError}
use Rattle.smt_job_terms.proofs.Reading.{behind, fault_passes, nothing_behind, one_behind, passes_on}

-- ---- texts

abbrev pub ReadingTexts : (done : List (RcStr Global)) (remaining all : List SExpr) → Type 0
ReadingTexts done remaining all = texts_in (plain_list all) ≡ behind (map rc_str_bytes done) (texts_in (plain_list remaining))

pub no_texts_read : (all : List SExpr) → ReadingTexts [] all all
no_texts_read all = nothing_behind (texts_in (plain_list all))

pub all_texts : (done : List (RcStr Global)) (all : List SExpr) (i : ℕ) → length all ≤ i → ReadingTexts done (drop i all) all → texts_in (plain_list all) ≡ Ok (map rc_str_bytes done)
all_texts done all i l g = g ∙ ap (behind (map rc_str_bytes done)) (at_drop_all (λ xs. texts_in (plain_list xs)) all i l) ∙ ap Ok (append-nil (map rc_str_bytes done))

module _ (done : List (RcStr Global)) (all : List SExpr) (i : ℕ) (item : SExpr) (g : ReadingTexts done (drop i all) all) (l : i < length all) (at : item ≡ get_or all i item) where
  this_text : texts_in (plain_list all) ≡ behind (map rc_str_bytes done) (demanded FormFault (text_in (plain item)) >>= λ text. followed text (texts_in (plain_list (drop (i + 1) all))))
  this_text =
      g ∙ ap (behind (map rc_str_bytes done)) (at_drop_more (λ xs. texts_in (plain_list xs)) all i item l ∙ ap (λ x. texts_in (Cons (plain x) (plain_list (drop (i + 1) all)))) (sym at))

  pub no_text : text_in (plain item) ≡ None → texts_in (plain_list all) ≡ Err FormFault
  no_text h = this_text ∙ ap (λ o. behind (map rc_str_bytes done) (demanded FormFault o >>= λ text. followed text (texts_in (plain_list (drop (i + 1) all))))) h

  pub one_text : (text : RcStr Global) (more : List (RcStr Global)) → text_in (plain item) ≡ Some (rc_str_bytes text) → more ≡ done ++ text ∷ [] → ReadingTexts more (drop (i + 1) all) all
  one_text text more h is =
      this_text
      ∙ ap (λ o. behind (map rc_str_bytes done) (demanded FormFault o >>= λ t. followed t (texts_in (plain_list (drop (i + 1) all))))) h
      ∙ one_behind (map rc_str_bytes done) (rc_str_bytes text) (texts_in (plain_list (drop (i + 1) all)))
      ∙ ap (λ ts. behind ts (texts_in (plain_list (drop (i + 1) all)))) (sym (map-append rc_str_bytes done (text ∷ [])) ∙ ap (map rc_str_bytes) (sym is))

-- ---- one enum type more

abbrev pub Members : Type 0
Members = List (List ℕ)

none_there : (o : Option Members) → true ≡ not (is_some o) → o ≡ None
none_there None h = refl
none_there (Some members) h = cc

one_there : (o : Option Members) (name : List ℕ) → false ≡ not (is_some o) → unless_declared o name ≡ Err (DuplicateFault name)
one_there None name h = cc
one_there (Some members) name h = refl

fault_of_both : {A B : Type 0} (part : Outcome A) (whole : Outcome B) (f g : JobFault) → part ≡ Err f → whole ≡ Err f → part ≡ Err g → whole ≡ Err g
fault_of_both part whole f g p w h = (let same : f ≡ g = cc in w ∙ ap Err same)

-- what is found by a name after one enum type more, by whether it is that name
found_after : (b : Bool) (name e : List ℕ) (members : Members) (before : Option Members) (enums : Declarations Members) → bytes_eq name e ≡ b → declared enums name ≡ None → before ≡ declared enums e
    → cond b (Some members) before ≡ declared (enums ++ (name, members) ∷ []) e
found_after true name e members before enums tied absent had =
    let one : name ≡ e = (bytes_eq-Decides name e).0 tied in
    sym (lookup_new (bytes_eq e) enums name members ((bytes_eq-Decides e name).1 (sym one)) (ap (declared enums) (sym one) ∙ absent))
found_after false name e members before enums tied absent had = had ∙ sym (lookup_other (bytes_eq e) enums name members (other_way e name tied))
  where
    other_way : (a b : List ℕ) → bytes_eq b a ≡ false → bytes_eq a b ≡ false
    other_way a b h = by_test (bytes_eq a b) refl
      where
        by_test : (c : Bool) → bytes_eq a b ≡ c → bytes_eq a b ≡ false
        by_test false k = k
        by_test true k = (let back : bytes_eq b a ≡ true = (bytes_eq-Decides b a).1 (sym ((bytes_eq-Decides a b).0 k)) in cc)

module _ (old : EnumTable) (enums : Declarations Members) (has : HasEnums old enums) where
  pub absent_there : (name : List ℕ) → true ≡ not (is_some (members_of (enums_of old) name)) → declared enums name ≡ None
  absent_there name h = sym (has.found name) ∙ none_there (members_of (enums_of old) name) h

  -- an enum type is entered
  entered : (name : List ℕ) (new : EnumTable) (written : Members) → true ≡ not (is_some (members_of (enums_of old) name)) → enums_of new ≡ insert_entry text_cmp (enums_of old) name (sorted text_cmp written)
      → ((e : List ℕ) → members_of (enums_of new) e ≡ update bytes_eq (members_of (enums_of old)) name (Some (sorted text_cmp written)) e)
      → DeclaresNext {A = Unit {0}} (HasEnums new) enums (new_enum enums (name, written)) (Ok tt)
  entered name new written h placed found = (
    (name, sorted text_cmp written),
    ap (λ o. unless_declared o name >>= λ n. Ok (n, sorted text_cmp written)) (absent_there name h),
    record {
      listed = placed ∙ ap (λ es. insert_entry text_cmp es name (sorted text_cmp written)) has.listed ∙ sym (sorted-push text_cmp nat_list_cmp_total text_same enums (name, sorted text_cmp written));
      found = λ e. found e ∙ found_after (bytes_eq name e) name e (sorted text_cmp written) (members_of (enums_of old) e) enums refl (absent_there name h) (has.found e);
    },
  )

  -- what the table answers for an enum type, by a copy of its name
  pub enum_entered : (key name : List ℕ) (new : EnumTable) (written : Members) (added : Bool) → key ≡ name → added ≡ true → added ≡ not (is_some (members_of (enums_of old) key))
      → OnTrue added (enums_of new ≡ insert_entry text_cmp (enums_of old) key (sorted text_cmp written))
      → OnTrue added ((e : List ℕ) → members_of (enums_of new) e ≡ update bytes_eq (members_of (enums_of old)) key (Some (sorted text_cmp written)) e)
      → DeclaresNext {A = Unit {0}} (HasEnums new) enums (new_enum enums (name, written)) (Ok tt)
  enum_entered key name new written true same is h placed found =
      subst (λ (n : List ℕ). DeclaresNext {A = Unit {0}} (HasEnums new) enums (new_enum enums (n, written)) (Ok tt)) same (entered key new written h placed found)
  enum_entered key name new written false same is h placed found = cc

  -- an enum type of the name is there
  pub enum_doubled : (key name : List ℕ) (written : Members) (added : Bool) (error : JobError) → key ≡ name → added ≡ false → added ≡ not (is_some (members_of (enums_of old) key)) → IsFault error (DuplicateFault name)
      → IsFaultIn error (new_enum enums (name, written))
  enum_doubled key name written added error same is h fault =
      let there : false ≡ not (is_some (members_of (enums_of old) name)) = sym is ∙ h ∙ ap (λ n. not (is_some (members_of (enums_of old) n))) same in
      let doubled : new_enum enums (name, written) ≡ Err (DuplicateFault name) =
      ap (λ o. unless_declared o name >>= λ n. Ok (n, sorted text_cmp written)) (sym (has.found name))
      ∙ ap (λ o. o >>= λ n. Ok (n, sorted text_cmp written)) (one_there (members_of (enums_of old) name) name there) in
      fault_passes error (new_enum enums (name, written)) _ fault (λ f. fault_of_both _ (new_enum enums (name, written)) (DuplicateFault name) f refl doubled)

-- ---- one after the other

-- the enum types that are entered so far, and the expressions that are left, are all
pub record EnteringEnums (table : EnumTable) (remaining all : List SExpr) : Type 0 where
  pub so_far : Declarations Members
  pub has : HasEnums table so_far
  pub whole : declared_by enum_of [] (plain_list all) ≡ declared_by enum_of so_far (plain_list remaining)

abbrev in_order : Declarations Members → Outcome Enums
in_order enums = Ok (sorted (λ p q. text_cmp p.0 q.0) enums)

pub none_entered : (table : EnumTable) (all : List SExpr) → enums_of table ≡ [] → EnteringEnums table all all
none_entered table all h = record { so_far = []; has = record { listed = h; found = λ name. ap (λ es. members_of es name) h }; whole = refl }

pub all_entered : (table : EnumTable) (all : List SExpr) (i : ℕ) → length all ≤ i → EnteringEnums table (drop i all) all → enums_in (plain_list all) ≡ Ok (enums_of table)
all_entered table all i l g =
    ap (λ o. o >>= in_order) (g.whole ∙ at_drop_all (λ xs. declared_by enum_of g.so_far (plain_list xs)) all i l) ∙ ap Ok (sym g.has.listed)

module _ (table : EnumTable) (all : List SExpr) (i : ℕ) (item : SExpr) (g : EnteringEnums table (drop i all) all) (l : i < length all) (at : item ≡ get_or all i item) where
  this_enum : declared_by enum_of [] (plain_list all) ≡ (enum_of g.so_far (plain item) >>= λ d. declared_by enum_of (g.so_far ++ d ∷ []) (plain_list (drop (i + 1) all)))
  this_enum =
      g.whole ∙ at_drop_more (λ xs. declared_by enum_of g.so_far (plain_list xs)) all i item l ∙ ap (λ x. declared_by enum_of g.so_far (Cons (plain x) (plain_list (drop (i + 1) all)))) (sym at)

  pub next_entered : (now : EnumTable) → DeclaresNext {A = Unit {0}} (HasEnums now) g.so_far (enum_of g.so_far (plain item)) (Ok tt) → EnteringEnums now (drop (i + 1) all) all
  next_entered now p = record {
    so_far = g.so_far ++ p.0 ∷ [];
    has = p.2;
    whole = this_enum ∙ ap (λ o. o >>= λ d. declared_by enum_of (g.so_far ++ d ∷ []) (plain_list (drop (i + 1) all))) p.1;
  }

  pub not_entered : (error : JobError) (r : Result EnumTable JobError) → IsFaultIn error (enum_of g.so_far (plain item)) → IsErrAnd r (λ y. y ≡ error) → IsReadAs enums_of r (enums_in (plain_list all))
  not_entered error r p h =
      passes_on enums_of r error _ (enum_of g.so_far (plain item)) h p
      (λ f fault. ap (λ o. o >>= in_order) (this_enum ∙ ap (λ o. o >>= λ d. declared_by enum_of (g.so_far ++ d ∷ []) (plain_list (drop (i + 1) all))) fault))
