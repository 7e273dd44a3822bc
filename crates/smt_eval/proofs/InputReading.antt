-- What reading a part of an input gives, and what the whole gives.
use Rattle.std.proofs.Common.{◌≡◌, ℕ, ◌+◌, ◌<◌, ◌≤◌, List, [], ◌∷◌, ◌++◌, Option, Some, None, Ok, Err, Result, drop, get_or, length, map, option_map, refl, sym, ap, ◌∙◌, subst, append_assoc, append-nil}
use Rattle.std.specs.Option.{ok_or, option_and_then}
use Rattle.std.specs.Prelude.{IfErr, IfOk, IsErrAnd}
use Rattle.std.proofs.lemmas.List.{at_drop_more, at_drop_all}
use Rattle.law_assignments.specs.Entries.{given_by}
use Rattle.law_assignments.specs.Outcomes.{InputFault, InputOutcome, FormlessInput}
use Rattle.law_assignments.specs.Written.{each_in}
use Rattle.law_terms.specs.Plain.{PlainTerm}
use Rattle.law_texts.specs.Outcomes.{◌>>=◌, demanded}
use Rattle.law_texts.specs.Reading.{Expression}
use Rattle.smt_sexpr.specs.View.{plain, plain_list}
use Rattle.smt_sexpr.specs.declared.expression.SExpr.{SExpr}
use Rattle.smt_eval.specs.InputRefused.{IsInputFaultIn, IsInputReadAs, input_fault_in}
use Rattle.smt_eval.specs.ReaderView.{ComesToBe, IsInputFault}
use Rattle.smt_eval.specs.declared.error.EvalError.{EvalError}
use Rattle.smt_eval.specs.declared.error.EvalError.TheVariants.{TooLarge, Parse, TooDeep, BadForm, Job, UnknownName, DuplicateName, NotValue, Missing, Memory}

-- ---- errors that are passed on

-- the fault of a part is that of the whole
pub fault_passes : {B B' : Type 0} (e : EvalError) (whole : InputOutcome B) (part : InputOutcome B') → IsInputFaultIn e part → ((f : InputFault) → part ≡ Err f → whole ≡ Err f) → IsInputFaultIn e whole
fault_passes TooLarge whole part h p = (h.0, h.1, p h.0 h.2)
fault_passes (Parse x) whole part h p = (h.0, h.1, p h.0 h.2)
fault_passes TooDeep whole part h p = (h.0, h.1, p h.0 h.2)
fault_passes BadForm whole part h p = (h.0, h.1, p h.0 h.2)
fault_passes (Job x) whole part h p = (h.0, h.1, p h.0 h.2)
fault_passes (UnknownName n) whole part h p = (h.0, h.1, p h.0 h.2)
fault_passes (DuplicateName n) whole part h p = (h.0, h.1, p h.0 h.2)
fault_passes (NotValue n) whole part h p = (h.0, h.1, p h.0 h.2)
fault_passes (Missing n) whole part h p = (h.0, h.1, p h.0 h.2)
fault_passes Memory whole part h p = tt

-- an error of a part is one of the whole
pub passes_on : {A B B' : Type 0} (view : A → B) (r : Result A EvalError) (e : EvalError) (whole : InputOutcome B) (part : InputOutcome B') → IsErrAnd r (λ y. y ≡ e) → IsInputFaultIn e part → ((f : InputFault) → part ≡ Err f → whole ≡ Err f) → IsInputReadAs view r whole
passes_on view (Ok x) e whole part h g p = absurd h
passes_on view (Err y) e whole part h g p = subst (λ (x : EvalError). IsInputFaultIn x whole) (sym h) (fault_passes e whole part g p)

-- an error names the fault that it is
pub is_fault : {B : Type 0} (e : EvalError) (f : InputFault) (stated : InputOutcome B) → input_fault_in e ≡ Some f → stated ≡ Err f → IsInputFaultIn e stated
is_fault TooLarge f stated h k = (f, h, k)
is_fault (Parse x) f stated h k = (f, h, k)
is_fault TooDeep f stated h k = (f, h, k)
is_fault BadForm f stated h k = (f, h, k)
is_fault (Job x) f stated h k = (f, h, k)
is_fault (UnknownName n) f stated h k = (f, h, k)
is_fault (DuplicateName n) f stated h k = (f, h, k)
is_fault (NotValue n) f stated h k = (f, h, k)
is_fault (Missing n) f stated h k = (f, h, k)
is_fault Memory f stated h k = tt

-- the fault of an entry
pub refused_by : {B : Type 0} (e : EvalError) (fault : InputFault) (whole : InputOutcome B) → IsInputFault e fault → whole ≡ Err fault → IsInputFaultIn e whole
refused_by e fault whole h is = fault_passes {B' = PlainTerm} e whole (Err fault) h (λ f g. (let d : fault ≡ f = cc in is ∙ ap Err d))

-- what is refused for want of memory alone is refused without a fault
pub want_alone : {A B : Type 0} (view : A → B) (r : Result A EvalError) (e : EvalError) (whole : InputOutcome B) → IsErrAnd r (λ y. y ≡ e) → e ≡ Memory → IsInputReadAs view r whole
want_alone view (Ok x) e whole h m = absurd h
want_alone view (Err y) e whole h m = subst (λ (x : EvalError). IsInputFaultIn x whole) (sym (h ∙ m)) tt

-- what has no form
pub formless : {A B : Type 0} (view : A → B) (r : Result A EvalError) (e : EvalError) (whole : InputOutcome B) → IsErrAnd r (λ y. y ≡ e) → e ≡ BadForm → whole ≡ Err FormlessInput → IsInputReadAs view r whole
formless view (Ok x) e whole h m g = absurd h
formless view (Err y) e whole h m g = subst (λ (x : EvalError). IsInputFaultIn x whole) (sym (h ∙ m)) (FormlessInput, refl, g)

-- what is not there is refused so
pub absent : {X : Type 0} (o : Option X) (e bad : EvalError) → ◌≡◌ {A = Result X EvalError} (Err e) (ok_or o bad) → (o ≡ None) × (e ≡ bad)
absent (Some x) e bad h = absurd (cc)
absent None e bad h = (refl, cc)

-- what is demanded and there
pub there : {A : Type 0} (o : Option A) (a : A) → demanded FormlessInput o ≡ Ok a → o ≡ Some a
there (Some b) a h = (let d : b ≡ a = cc in ap Some d)
there None a h = absurd (cc)

-- what is demanded and not there
pub not_there : {A : Type 0} (o : Option A) (f : InputFault) → demanded FormlessInput o ≡ Err f → (o ≡ None) × (FormlessInput ≡ f)
not_there (Some b) f h = absurd (cc)
not_there None f h = (refl, cc)

-- ---- errors of what comes to be

pub comes_not : {A B B' : Type 0} (has : B → Type 0) (r : Result A EvalError) (e : EvalError) (whole : InputOutcome B) (part : InputOutcome B') → IsErrAnd r (λ y. y ≡ e) → IsInputFaultIn e part → ((f : InputFault) → part ≡ Err f → whole ≡ Err f) → ComesToBe has r whole
comes_not has (Ok x) e whole part h g p = absurd h
comes_not has (Err y) e whole part h g p = subst (λ (x : EvalError). IsInputFaultIn x whole) (sym h) (fault_passes e whole part g p)

pub want_alone_there : {A B : Type 0} (has : B → Type 0) (r : Result A EvalError) (e : EvalError) (whole : InputOutcome B) → IsErrAnd r (λ y. y ≡ e) → e ≡ Memory → ComesToBe has r whole
want_alone_there has (Ok x) e whole h m = absurd h
want_alone_there has (Err y) e whole h m = subst (λ (x : EvalError). IsInputFaultIn x whole) (sym (h ∙ m)) tt

-- what is read is the same of what is equal
pub read_of : {A B : Type 0} (view : A → B) (r : Result A EvalError) (whole part : InputOutcome B) → whole ≡ part → IsInputReadAs view r part → IsInputReadAs view r whole
read_of view r whole part e h = subst (λ (o : InputOutcome _). IsInputReadAs view r o) (sym e) h

-- what is read of a part is read of the whole
pub read_on : {A B B' : Type 0} (view : A → B') (whole_view : A → B) (r : Result A EvalError) (part : InputOutcome B') (whole : InputOutcome B) → IsInputReadAs view r part → ((f : InputFault) → part ≡ Err f → whole ≡ Err f) → ((x : A) → part ≡ Ok (view x) → whole ≡ Ok (whole_view x))
    → IsInputReadAs whole_view r whole
read_on view whole_view (Ok x) part whole h p q = q x h
read_on view whole_view (Err e) part whole h p q = fault_passes e whole part h p

-- what follows where something was read, and where it was refused
pub if_read : {A B : Type 0} (view : A → B) (r : Result A EvalError) (whole : InputOutcome B) (P : A → Type 0) → IsInputReadAs view r whole → ((x : A) → whole ≡ Ok (view x) → P x) → IfOk r P
if_read view (Ok x) whole P h so = so x h
if_read view (Err e) whole P h so = tt

pub if_refused : {A B : Type 0} (view : A → B) (r : Result A EvalError) (whole : InputOutcome B) (P : EvalError → Type 0) → IsInputReadAs view r whole → ((e : EvalError) → IsInputFaultIn e whole → P e) → IfErr r P
if_refused view (Ok x) whole P h so = tt
if_refused view (Err e) whole P h so = so e h

-- ---- expressions of one form, of which some are read

module _ {A : Type 0} (of : Expression → Option A) where
  -- what is read and what is left are all
  abbrev pub ReadingEach : (done : List A) (remaining all : List SExpr) → Type 0
  ReadingEach done remaining all = each_in of (plain_list all) ≡ option_map (λ rest. done ++ rest) (each_in of (plain_list remaining))

  pub none_read : (all : List SExpr) → ReadingEach [] all all
  none_read all = go (each_in of (plain_list all))
    where
      go : (o : Option (List A)) → o ≡ option_map (λ rest. [] ++ rest) o
      go (Some rest) = refl
      go None = refl

  pub all_read : (done : List A) (all : List SExpr) (i : ℕ) → length all ≤ i → ReadingEach done (drop i all) all → each_in of (plain_list all) ≡ Some done
  all_read done all i l g = g ∙ ap (option_map (λ rest. done ++ rest)) (at_drop_all (λ xs. each_in of (plain_list xs)) all i l) ∙ ap Some (append-nil done)

  module _ (done : List A) (all : List SExpr) (i : ℕ) (item : SExpr) (g : ReadingEach done (drop i all) all) (l : i < length all) (at : item ≡ get_or all i item) where
    abbrev left : Option (List A)
    left = each_in of (plain_list (drop (i + 1) all))

    abbrev by_first : Option A → Option (List A)
    by_first o = option_map (λ rest. done ++ rest) (option_and_then (λ a. option_map (λ rest. a ∷ rest) left) o)

    this_one : each_in of (plain_list all) ≡ by_first (of (plain item))
    this_one = g ∙ ap (option_map (λ rest. done ++ rest)) (at_drop_more (λ xs. each_in of (plain_list xs)) all i item l) ∙ ap (λ x. by_first (of (plain x))) (sym at)

    pub unread : of (plain item) ≡ None → each_in of (plain_list all) ≡ None
    unread h = this_one ∙ ap by_first h

    pub unread_fault : (f : InputFault) → demanded FormlessInput (of (plain item)) ≡ Err f → demanded FormlessInput (each_in of (plain_list all)) ≡ Err f
    unread_fault f h = (let n = not_there (of (plain item)) f h in ap (demanded FormlessInput) (unread n.0) ∙ ap Err n.1)

    pub one_more : (a : A) (more : List A) → of (plain item) ≡ Some a → more ≡ done ++ a ∷ [] → ReadingEach more (drop (i + 1) all) all
    one_more a more h is = this_one ∙ ap by_first h ∙ go left ∙ ap (λ ds. option_map (λ rest. ds ++ rest) left) (sym is)
      where
        go : (o : Option (List A)) → option_map (λ rest. done ++ rest) (option_map (λ rest. a ∷ rest) o) ≡ option_map (λ rest. (done ++ a ∷ []) ++ rest) o
        go (Some rest) = ap Some (sym (append_assoc done (a ∷ []) rest))
        go None = refl

-- ---- entries one behind the other, of which some are given

module _ {A X W : Type 0} (of : List A → W → InputOutcome A) (view : X → W) (start : List A) where
  -- what is given and what is left are all
  abbrev pub Giving : (done : List A) (remaining all : List X) → Type 0
  Giving done remaining all = given_by of start (map view all) ≡ given_by of done (map view remaining)

  pub all_given : (done : List A) (all : List X) (i : ℕ) → length all ≤ i → Giving done (drop i all) all → given_by of start (map view all) ≡ Ok done
  all_given done all i l g = g ∙ at_drop_all (λ xs. given_by of done (map view xs)) all i l

  module _ (done : List A) (all : List X) (i : ℕ) (item : X) (g : Giving done (drop i all) all) (l : i < length all) (at : item ≡ get_or all i item) where
    abbrev by_entry : InputOutcome A → InputOutcome (List A)
    by_entry o = o >>= λ a. given_by of (done ++ a ∷ []) (map view (drop (i + 1) all))

    this_entry : given_by of start (map view all) ≡ by_entry (of done (view item))
    this_entry = g ∙ at_drop_more (λ xs. given_by of done (map view xs)) all i item l ∙ ap (λ x. by_entry (of done (view x))) (sym at)

    pub entry_fault : (f : InputFault) → of done (view item) ≡ Err f → given_by of start (map view all) ≡ Err f
    entry_fault f h = this_entry ∙ ap by_entry h

    pub one_more_entry : (a : A) (more : List A) → of done (view item) ≡ Ok a → more ≡ done ++ a ∷ [] → Giving more (drop (i + 1) all) all
    one_more_entry a more h is = this_entry ∙ ap by_entry h ∙ ap (λ ds. given_by of ds (map view (drop (i + 1) all))) (sym is)
