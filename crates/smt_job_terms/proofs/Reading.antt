-- What reading a part gives, and what the whole gives.
use Rattle.std.proofs.Common.{◌≡◌, List, [], ◌∷◌, ◌++◌, Ok, Err, Result, refl, sym, ap, subst, append_assoc}
use Rattle.std.specs.Prelude.{IsErrAnd}
use Rattle.law_jobs.specs.Outcomes.{JobFault, Outcome, followed, mapped}
use Rattle.smt_job_terms.specs.ReadAs.{IsFaultIn, IsReadAs}
use Rattle.smt_job_terms.specs.declared.error.JobError.{JobError}
use Rattle.smt_job_terms.specs.declared.error.JobError.TheVariants.{TooLarge, Parse, TooDeep, BadForm, UnknownName, DuplicateName, BadType, BadWidth, BadLiteral, IllTyped, NotBool, Unbalanced, Memory}

-- ---- errors that are passed on

-- the fault of a part is that of the whole
pub fault_passes : {B B' : Type 0} (e : JobError) (whole : Outcome B) (part : Outcome B') → IsFaultIn e part → ((f : JobFault) → part ≡ Err f → whole ≡ Err f) → IsFaultIn e whole
fault_passes TooLarge whole part h p = h
fault_passes (Parse f) whole part h p = h
fault_passes TooDeep whole part h p = h
fault_passes BadForm whole part h p = p _ h
fault_passes (UnknownName n) whole part h p = p _ h
fault_passes (DuplicateName n) whole part h p = p _ h
fault_passes BadType whole part h p = p _ h
fault_passes BadWidth whole part h p = p _ h
fault_passes (BadLiteral n) whole part h p = p _ h
fault_passes IllTyped whole part h p = p _ h
fault_passes NotBool whole part h p = p _ h
fault_passes Unbalanced whole part h p = p _ h
fault_passes Memory whole part h p = tt

-- an error of a part is one of the whole
pub passes_on : {A B B' : Type 0} (view : A → B) (r : Result A JobError) (e : JobError) (whole : Outcome B) (part : Outcome B') → IsErrAnd r (λ y. y ≡ e) → IsFaultIn e part → ((f : JobFault) → part ≡ Err f → whole ≡ Err f) → IsReadAs view r whole
passes_on view (Ok x) e whole part h g p = absurd h
passes_on view (Err y) e whole part h g p = subst (λ (x : JobError). IsFaultIn x whole) (sym h) (fault_passes e whole part g p)

-- an error is the same of what is equal
pub read_of : {A B : Type 0} (view : A → B) (r : Result A JobError) (whole part : Outcome B) → whole ≡ part → IsReadAs view r part → IsReadAs view r whole
read_of view r whole part e h = subst (λ (o : Outcome _). IsReadAs view r o) (sym e) h

-- ---- lists, of which some are done

abbrev pub behind : {A : Type 0} → List A → Outcome (List A) → Outcome (List A)
behind done (Ok rest) = Ok (done ++ rest)
behind done (Err f) = Err f

pub nothing_behind : {A : Type 0} (o : Outcome (List A)) → o ≡ behind [] o
nothing_behind (Ok rest) = refl
nothing_behind (Err f) = refl

pub one_behind : {A : Type 0} (done : List A) (a : A) (o : Outcome (List A)) → behind done (followed a o) ≡ behind (done ++ a ∷ []) o
one_behind done a (Ok rest) = ap Ok (sym (append_assoc done (a ∷ []) rest))
one_behind done a (Err f) = refl

pub fault_behind : {A : Type 0} (done : List A) (o : Outcome (List A)) (f : JobFault) → o ≡ Err f → behind done o ≡ Err f
fault_behind done o f h = ap (behind done) h

-- ---- what is mapped

pub mapped_fault : {A B : Type 0} (g : A → B) (o : Outcome A) (f : JobFault) → mapped g o ≡ Err f → o ≡ Err f
mapped_fault g (Ok a) f h = absurd (cc)
mapped_fault g (Err e) f h = (let d : e ≡ f = cc in ap Err d)

pub record IsMappedOf {A B : Type 0} (g : A → B) (o : Outcome A) (b : B) : Type 0 where
  pub stated : A
  pub is_stated : o ≡ Ok stated
  pub is_mapped : b ≡ g stated

pub mapped_of : {A B : Type 0} (g : A → B) (o : Outcome A) (b : B) → mapped g o ≡ Ok b → IsMappedOf g o b
mapped_of g (Ok a) b h = record { stated = a; is_stated = refl; is_mapped = cc }
mapped_of g (Err e) b h = absurd (cc)
