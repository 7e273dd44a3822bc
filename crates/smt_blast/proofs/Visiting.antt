-- What a walk over old terms leaves.
use Rattle.std.proofs.Common.{◌≡◌, ◌<◌, ◌≤◌, ◌+◌, ◌||◌, ◌⊎◌, inl, inr, ℕ, zero, suc, Bool, true, false, List, [], ◌∷◌, ◌++◌, Option, Some, None, Result, Ok, Err, drop, get_or, length, map, take, refl, sym, ap, ◌∙◌, subst, arith}
use Rattle.std.proofs.lemmas.Bool.{and_parts, false≢true}
use Rattle.std.proofs.lemmas.List.{drop_all, drop_more, take_all, take_more}
use Rattle.std.specs.List.{AllByRecursion}
use Rattle.std.specs.Prelude.{IfNone, IfSome, IsErrAnd, is_some, option_and_then, option_map, slice_get, slice_set}
use Rattle.law_blasting.specs.Blasted.{Variables, AreNumbered, is_among, number_from}
use Rattle.law_blasting.specs.Numbering.{unless_refused, walked, walked_all, with_variable}
use Rattle.law_blasting.specs.Passing.{Related, none, one}
use Rattle.law_blasting.specs.Refusals.{Refusal, UnsupportedOperator, is_supported, operator_refusal, term_refusal, type_refusal}
use Rattle.law_blasting.proofs.Inverses.{variable_itself}
use Rattle.law_blasting.proofs.Lookups.{same_is}
use Rattle.law_blasting.proofs.Numbering.{numbers_stay, walks_number}
use Rattle.law_blasting.proofs.Passing.{joined, same_length}
use Rattle.law_terms.specs.Interpretations.{variable_eq}
use Rattle.law_terms.specs.Meanings.{all_found, found, meanings}
use Rattle.law_terms.specs.Nodes.{Meaning, TermMeaning}
use Rattle.law_terms.specs.Plain.{PlainFunction, PlainLiteral, PlainOp, UufOp, PlainTerm, Application, NoneTerm, LiteralTerm, RecordTerm, SetTerm, SomeTerm, VariableTerm, PlainTerms, no_terms, one_term, PlainType, list_of_terms}
use Rattle.law_terms.specs.Reached.{reached_variable}
use Rattle.law_terms.specs.Types.{literal_type, type_of}
use Rattle.law_terms.specs.Typing.{typed, typed_all}
use Rattle.law_terms.proofs.Shapes.{all-become}
use Rattle.smt_nodes.specs.Interned.{meaning_in, nodes_of}
use Rattle.smt_nodes.specs.View.{place_of, places_of}
use Rattle.smt_nodes.specs.declared.id.NodeId.{NodeId}
use Rattle.smt_nodes.specs.declared.interner.Interner.{Interner}
use Rattle.smt_blast.specs.CircuitView.{operator_of}
use Rattle.smt_blast.specs.declared.circuit.Chain.TheVariants.{Carry, Borrow}
use Rattle.smt_blast.specs.declared.circuit.Circuit.{Circuit}
use Rattle.smt_blast.specs.declared.circuit.Circuit.TheVariants.{Logic, Equal, Choice, Sum, Overflow, Negation, NegationOverflow, Shift, Test, ZeroExtension}
use Rattle.smt_blast.specs.declared.circuit.Connective.TheVariants.{And, Not, Or}
use Rattle.smt_blast.specs.declared.circuit.Direction.TheVariants.{Up, Down}
use Rattle.smt_blast.specs.Marks.{mark_in, HasMark, HasSeen, IsMarked, IsSeen, IsVariable, KeepsMarks}
use Rattle.smt_blast.specs.Sorts.{plain_sort}
use Rattle.smt_blast.specs.Walks.{behind_parts, IsWalk, Refuses, Walks}
use Rattle.smt_blast.specs.declared.error.BlastError.{BlastError}
use Rattle.smt_blast.specs.declared.error.BlastError.TheVariants.{Unsupported, UnsupportedType, Memory}
use Rattle.smt_blast.specs.declared.marks.Seen.{Seen}
use Rattle.smt_blast.specs.declared.sort.Sort.{Sort}
use Rattle.smt_blast.specs.declared.sort.Sort.TheVariants.{Truth, Bits}
use Rattle.smt_blast.specs.declared.visit.Walk.{Walk}
use Rattle.smt_blast.proofs.Nodes.{one_number, split_found, within}

-- an answer without an error
abbrev pub done : Result (Unit {0}) BlastError
done = Ok tt

-- ---- errors

pub no_memory : (old : Interner) (w x : Walk) (r : Result Variables Refusal) (ids : List NodeId) (a : Result (Unit {0}) BlastError) → IsErrAnd a (λ e. e ≡ Memory) → Walks old w x r ids a
no_memory old w x r ids (Ok u) h = absurd h
no_memory old w x r ids (Err e) h = subst (Refuses r) (sym h) tt

pub refuses : (old : Interner) (w x : Walk) (r : Result Variables Refusal) (ids : List NodeId) (a : Result (Unit {0}) BlastError) (e : BlastError) → IsErrAnd a (λ f. f ≡ e) → Refuses r e → Walks old w x r ids a
refuses old w x r ids (Ok u) e h k = absurd h
refuses old w x r ids (Err f) e h k = subst (Refuses r) (sym h) k

-- the refusal of the parts is that of the application
pub refused_inside : (o : PlainOp) (r : Result Variables Refusal) (e : BlastError) → Refuses r e → Refuses (behind_parts o r) e
refused_inside o r (Unsupported op) h = ap (behind_parts o) h
refused_inside o r (UnsupportedType ty) h = ap (behind_parts o) h
refused_inside o r Memory h = tt

-- ---- what is walked

pub application_walked : (vs : Variables) (o : PlainOp) (ts : PlainTerms) (ty : PlainType) → type_refusal ty ≡ None → walked vs (Application o ts ty) ≡ behind_parts o (walked_all vs ts)
application_walked vs o ts ty h = ap (λ f. elim f as (λ x. Result Variables Refusal) [ Some r ↦ Err r | None ↦ elim (walked_all vs ts) as (λ x. Result Variables Refusal) [ Ok ws ↦ unless_refused (operator_refusal o) ws | Err r ↦ Err r ] ]) h ∙ by (walked_all vs ts)
  where
    by : (r : Result Variables Refusal) → ◌≡◌ {A = Result Variables Refusal} (elim r [ Ok ws ↦ unless_refused (operator_refusal o) ws | Err q ↦ Err q ]) (behind_parts o r)
    by (Ok ws) = refl
    by (Err q) = refl

pub refused_by_type : (vs : Variables) (t : PlainTerm) (r : Refusal) → type_refusal (type_of t) ≡ Some r → walked vs t ≡ Err r
refused_by_type vs (Application o ts ty) r h = ap (λ f. elim f as (λ x. Result Variables Refusal) [ Some q ↦ Err q | None ↦ elim (walked_all vs ts) as (λ x. Result Variables Refusal) [ Ok ws ↦ unless_refused (operator_refusal o) ws | Err q ↦ Err q ] ]) h
refused_by_type vs (LiteralTerm l) r h = ap (λ f. unless_refused f vs) h
refused_by_type vs (VariableTerm id ty) r h = ap (λ f. unless_refused f (with_variable vs (id, ty))) h
refused_by_type vs (NoneTerm t) r h = ap (λ f. unless_refused f vs) h
refused_by_type vs (RecordTerm fs) r h = ap (λ f. unless_refused f vs) h
refused_by_type vs (SetTerm t ts) r h = ap (λ f. unless_refused f vs) h
refused_by_type vs (SomeTerm t) r h = ap (λ f. unless_refused f vs) h

pub not_supported : (o : PlainOp) (ws : Variables) (r : Result Variables Refusal) → r ≡ Ok ws → is_supported o ≡ false → behind_parts o r ≡ Err (UnsupportedOperator o)
not_supported o ws r e h = ap (behind_parts o) e ∙ ap (λ b. unless_refused (elim b as (λ x. Option Refusal) [ true ↦ None | false ↦ Some (UnsupportedOperator o) ]) ws) h

pub is_taken : (o : PlainOp) (ws : Variables) (r : Result Variables Refusal) → r ≡ Ok ws → is_supported o ≡ true → behind_parts o r ≡ Ok ws
is_taken o ws r e h = ap (behind_parts o) e ∙ ap (λ b. unless_refused (elim b as (λ x. Option Refusal) [ true ↦ None | false ↦ Some (UnsupportedOperator o) ]) ws) h

-- ---- types

pub none_so : {P : Type 0} (o : Option Sort) → is_some o ≡ false → IfNone o P → P
none_so None h p = p
none_so (Some s) h p = absurd (false≢true (sym h))

pub sort_taken : (t : PlainType) (o : Option Sort) → is_some o ≡ true → IfSome o (λ s. t ≡ plain_sort s) → type_refusal t ≡ None
sort_taken t None h p = absurd (false≢true h)
sort_taken t (Some Truth) h p = ap type_refusal p
sort_taken t (Some (Bits w)) h p = ap type_refusal p

-- ---- marks

get_set : {X : Type 0} (xs : List X) (i : ℕ) (x : X) → i < length xs → slice_get (slice_set xs i x) i ≡ Some x
get_set [] i x h = absurd (omega arith)
get_set (y ∷ xs) zero x h = refl
get_set (y ∷ xs) (suc i) x h = get_set xs i x (omega arith)

get_other : {X : Type 0} (xs : List X) (i j : ℕ) (x : X) → (i ≡ j → ⊥) → slice_get (slice_set xs i x) j ≡ slice_get xs j
get_other [] i j x h = refl
get_other (y ∷ xs) zero zero x h = absurd (h refl)
get_other (y ∷ xs) zero (suc j) x h = refl
get_other (y ∷ xs) (suc i) zero x h = refl
get_other (y ∷ xs) (suc i) (suc j) x h = get_other xs i j x (λ e. h (ap suc e))

set_length : {X : Type 0} (xs : List X) (i : ℕ) (x : X) → length (slice_set xs i x) ≡ length xs
set_length [] i x = refl
set_length (y ∷ xs) zero x = refl
set_length (y ∷ xs) (suc i) x = ap suc (set_length xs i x)

-- marks with one more
abbrev pub with_mark : List (Option Seen) → NodeId → ℕ → List (Option Seen)
with_mark marks id n = slice_set marks (place_of id) (Some (record { id = id; number = n }))

new_mark : (marks : List (Option Seen)) (id : NodeId) (n : ℕ) → place_of id < length marks → mark_in (with_mark marks id n) (place_of id) ≡ Some (record { id = id; number = n })
new_mark marks id n h = ap (option_and_then (λ m. m)) (get_set marks (place_of id) (Some (record { id = id; number = n })) h)

old_mark : (marks : List (Option Seen)) (id : NodeId) (n j : ℕ) → (place_of id ≡ j → ⊥) → mark_in (with_mark marks id n) j ≡ mark_in marks j
old_mark marks id n j h = ap (option_and_then (λ m. m)) (get_other marks (place_of id) j (Some (record { id = id; number = n })) h)

same_place : (i j : ℕ) → (i ≡ j) ⊎ (i ≡ j → ⊥)
same_place zero zero = inl refl
same_place zero (suc j) = inr (λ e. omega arith)
same_place (suc i) zero = inr (λ e. omega arith)
same_place (suc i) (suc j) = by (same_place i j)
  where
    by : (i ≡ j) ⊎ (i ≡ j → ⊥) → (suc i ≡ suc j) ⊎ (suc i ≡ suc j → ⊥)
    by (inl e) = inl (ap suc e)
    by (inr f) = inr (λ e. f (omega arith))

pub keeps_old : (marks : List (Option Seen)) (id : NodeId) (n : ℕ) → place_of id < length marks → KeepsMarks marks (with_mark marks id n)
keeps_old marks id n h other (s, m) = by (same_place (place_of id) (place_of other))
  where
    by : (place_of id ≡ place_of other) ⊎ (place_of id ≡ place_of other → ⊥) → IsMarked (with_mark marks id n) other
    by (inl e) = (record { id = id; number = n }, ap (mark_in (with_mark marks id n)) (sym e) ∙ new_mark marks id n h)
    by (inr f) = (s, old_mark marks id n (place_of other) f ∙ m)

pub kept_twice : (ms ns ps : List (Option Seen)) → KeepsMarks ms ns → KeepsMarks ns ps → KeepsMarks ms ps
kept_twice ms ns ps f g id h = g id (f id h)

marks_stay : (old : Interner) (ms ns : List (Option Seen)) (us : List PlainTerm) → KeepsMarks ms ns → AllByRecursion (HasMark old ms) us → AllByRecursion (HasMark old ns) us
marks_stay old ms ns us k h = all-become (HasMark old ms) (HasMark old ns) (λ u (id, e, m). (id, e, k id m)) us h

all_marked_stay : (ms ns : List (Option Seen)) (ids : List NodeId) → KeepsMarks ms ns → AllByRecursion (IsMarked ms) ids → AllByRecursion (IsMarked ns) ids
all_marked_stay ms ns ids k h = all-become (IsMarked ms) (IsMarked ns) (λ id m. k id m) ids h

-- the terms of nodes with marks have marks
pub terms_marked : (old : Interner) (marks : List (Option Seen)) (ids : List NodeId) (us : List PlainTerm) → all_found (meanings (nodes_of old)) (places_of ids) ≡ Some (map TermMeaning us) → AllByRecursion (IsMarked marks) ids → AllByRecursion (HasMark old marks) us
terms_marked old marks ids [] e h = tt
terms_marked old marks [] (u ∷ us) e h = absurd (cc)
terms_marked old marks (id ∷ ids) (u ∷ us) e h =
    let (here, there) = split_found (meanings (nodes_of old)) (place_of id) (places_of ids) (TermMeaning u) (map TermMeaning us) e in
    ((id, here, h.0), terms_marked old marks ids us there h.1)

mark_stays_sound : (old : Interner) (ms ns : List (Option Seen)) (vs : Variables) (id : NodeId) (s : Seen) → KeepsMarks ms ns → IsSeen old ms vs id s → IsSeen old ns vs id s
mark_stays_sound old ms ns vs id s k h = record {
  here = h.here;
  term = h.term;
  means = h.means;
  typed = h.typed;
  taken = h.taken;
  numbered = h.numbered;
  own = h.own;
  parts = λ o ts t e. marks_stay old ms ns (list_of_terms ts) k (h.parts o ts t e);
}

-- what a new mark says
abbrev pub Sound : Interner → List (Option Seen) → Variables → NodeId → ℕ → Type 0
Sound old marks vs id n = IsSeen old marks vs id (record { id = id; number = n })

same_id : (a b : NodeId) → place_of a ≡ place_of b → a ≡ b
same_id a b e = ap (λ (n : ℕ). record { place = n }) e

sound_after : (old : Interner) (marks : List (Option Seen)) (vs : Variables) (id : NodeId) (n : ℕ) → place_of id < length marks → ((other : NodeId) (s : Seen) → mark_in marks (place_of other) ≡ Some s → IsSeen old (with_mark marks id n) vs other s) → Sound old (with_mark marks id n) vs id n
    → (other : NodeId) (s : Seen) → mark_in (with_mark marks id n) (place_of other) ≡ Some s → IsSeen old (with_mark marks id n) vs other s
sound_after old marks vs id n h before here other s m = by (same_place (place_of id) (place_of other))
  where
    by : (place_of id ≡ place_of other) ⊎ (place_of id ≡ place_of other → ⊥) → IsSeen old (with_mark marks id n) vs other s
    by (inl e) =
        let is : Some (record { id = id; number = n }) ≡ Some s = sym (new_mark marks id n h) ∙ (ap (mark_in (with_mark marks id n)) e ∙ m) in
        subst (λ x. IsSeen old (with_mark marks id n) vs x s) (same_id id other e) (subst (λ x. IsSeen old (with_mark marks id n) vs id x) (cc) here)
    by (inr f) = before other s (sym (old_mark marks id n (place_of other) f) ∙ m)

-- a node that is no variable is marked
pub marked : (old : Interner) (marks : List (Option Seen)) (ids : List NodeId) (vs : Variables) (id : NodeId) (n : ℕ) → HasSeen old marks ids vs → place_of id < length marks → Sound old (with_mark marks id n) vs id n → HasSeen old (with_mark marks id n) ids vs
marked old marks ids vs id n h p here = record {
  places = set_length marks (place_of id) (Some (record { id = id; number = n })) ∙ h.places;
  variables = h.variables;
  met = all_marked_stay marks (with_mark marks id n) ids (keeps_old marks id n p) h.met;
  sound = sound_after old marks vs id n p (λ other s m. mark_stays_sound old marks (with_mark marks id n) vs other s (keeps_old marks id n p) (h.sound other s m)) here;
}

-- ---- variables

not_met : (old : Interner) (marks : List (Option Seen)) (id : NodeId) (v : List ℕ × PlainType) {ids : List NodeId} {vs : Variables} → Related (IsVariable old) ids vs → AllByRecursion (IsMarked marks) ids → mark_in marks (place_of id) ≡ None → IsVariable old id v → is_among vs v ≡ false
not_met old marks id v none h m e = refl
not_met old marks id v (one {x = x} {y = w} {ys = ws} r k) h m e = by (variable_eq v w) refl (not_met old marks id v k h.1 m e)
  where
    by : (b : Bool) → variable_eq v w ≡ b → is_among ws v ≡ false → (b || is_among ws v) ≡ false
    by false q again = again
    by true q again =
        let same : w ≡ v = same_is v w q in
        let place = one_number old x id (TermMeaning (VariableTerm v.0 v.1)) (subst (λ u. meaning_in old x ≡ Some (TermMeaning (VariableTerm u.0 u.1))) same r) e in
        let (s, marked) = h.0 in
        let there : mark_in marks (place_of id) ≡ Some s = ap (mark_in marks) (sym place) ∙ marked in
        let clash : None ≡ Some s = sym m ∙ there in
        absurd (cc)

number_last : (k : ℕ) (vs : Variables) (v : List ℕ × PlainType) → is_among vs v ≡ false → number_from k (vs ++ v ∷ []) v ≡ k + length vs
number_last k [] v h = ap (λ b. elim b as (λ x. ℕ) [ true ↦ k | false ↦ suc k ]) (variable_itself v) ∙ omega arith
number_last k (w ∷ ws) v h = by (variable_eq v w) h (number_last (suc k) ws v)
  where
    by : (b : Bool) → (b || is_among ws v) ≡ false → (is_among ws v ≡ false → number_from (suc k) (ws ++ v ∷ []) v ≡ suc k + length ws) → ◌≡◌ {A = ℕ} (elim b [ true ↦ k | false ↦ number_from (suc k) (ws ++ v ∷ []) v ]) (k + suc (length ws))
    by true q again = absurd (false≢true (sym q))
    by false q again = again q ∙ omega arith

number_first : (j : ℕ) (xs ys : Variables) (v : List ℕ × PlainType) → is_among xs v ≡ true → number_from j (xs ++ ys) v ≡ number_from j xs v
number_first j [] ys v h = absurd (false≢true h)
number_first j (x ∷ xs) ys v h = by (variable_eq v x) h (number_first (suc j) xs ys v)
  where
    by : (b : Bool) → (b || is_among xs v) ≡ true → (is_among xs v ≡ true → number_from (suc j) (xs ++ ys) v ≡ number_from (suc j) xs v) → ◌≡◌ {A = ℕ} (elim b [ true ↦ j | false ↦ number_from (suc j) (xs ++ ys) v ]) (elim b [ true ↦ j | false ↦ number_from (suc j) xs v ])
    by true k again = refl
    by false k again = again k

own_among : (vs : Variables) (t : PlainTerm) (v : List ℕ × PlainType) → AreNumbered vs t → reached_variable t ≡ Some v → is_among vs v ≡ true
own_among vs (VariableTerm id ty) v n e = let same : (id, ty) ≡ v = (cc) in subst (λ w. is_among vs w ≡ true) same n.0
own_among vs (Application o ts ty) v n e = absurd (cc)
own_among vs (LiteralTerm l) v n e = absurd (cc)
own_among vs (NoneTerm t) v n e = absurd (cc)
own_among vs (RecordTerm fs) v n e = absurd (cc)
own_among vs (SetTerm t ts) v n e = absurd (cc)
own_among vs (SomeTerm t) v n e = absurd (cc)

-- the variable is new, and stands last
pub new_last : (old : Interner) (marks : List (Option Seen)) (ids : List NodeId) (vs : Variables) (id : NodeId) (v : List ℕ × PlainType) → HasSeen old marks ids vs → mark_in marks (place_of id) ≡ None → IsVariable old id v → (is_among vs v ≡ false) × (with_variable vs v ≡ vs ++ v ∷ [])
new_last old marks ids vs id v h m e =
    let new = not_met old marks id v h.variables h.met m e in
    (new, ap (λ b. elim b as (λ x. Variables) [ true ↦ vs | false ↦ vs ++ v ∷ [] ]) new)

variable_sound : (old : Interner) (ms ns : List (Option Seen)) (vs : Variables) (v : List ℕ × PlainType) (id : NodeId) (s : Seen) → with_variable vs v ≡ vs ++ v ∷ [] → KeepsMarks ms ns → IsSeen old ms vs id s → IsSeen old ns (with_variable vs v) id s
variable_sound old ms ns vs v id s last k h = record {
  here = h.here;
  term = h.term;
  means = h.means;
  typed = h.typed;
  taken = h.taken;
  numbered = (numbers_stay vs (v ∷ []) h.term h.numbered).0;
  own = λ w e. h.own w e ∙ sym (ap (λ us. number_from 0 us w) last ∙ number_first 0 vs (v ∷ []) w (own_among vs h.term w h.numbered e));
  parts = λ o ts t e. marks_stay old ms ns (list_of_terms ts) k (h.parts o ts t e);
}

-- a new variable is marked
pub variable_marked : (old : Interner) (marks : List (Option Seen)) (ids more : List NodeId) (vs : Variables) (id : NodeId) (v : List ℕ × PlainType) (n : ℕ) → HasSeen old marks ids vs → mark_in marks (place_of id) ≡ None → IsVariable old id v → place_of id < length marks → n ≡ length ids → more ≡ ids ++ id ∷ []
    → term_refusal (VariableTerm v.0 v.1) ≡ None → AreNumbered (with_variable vs v) (VariableTerm v.0 v.1) → HasSeen old (with_mark marks id n) more (with_variable vs v)
variable_marked old marks ids more vs id v n h m e p count is taken numbered =
    let (new, last) = new_last old marks ids vs id v h m e in
    let ns = with_mark marks id n in
    let kept = keeps_old marks id n p in
    let own_number : number_from 0 (with_variable vs v) v ≡ length vs = ap (λ us. number_from 0 us v) last ∙ (number_last 0 vs v new ∙ omega arith) in
    record {
      places = set_length marks (place_of id) (Some (record { id = id; number = n })) ∙ h.places;
      variables = subst (λ (l : List NodeId). Related (IsVariable old) l (with_variable vs v)) (sym is) (subst (λ us. Related (IsVariable old) (ids ++ id ∷ []) us) (sym last) (joined h.variables (one e none)));
      met = subst (λ (l : List NodeId). AllByRecursion (IsMarked ns) l) (sym is) (all_behind ids (all_marked_stay marks ns ids kept h.met));
      sound = sound_after old marks (with_variable vs v) id n p (λ other s q. variable_sound old marks ns vs v other s last kept (h.sound other s q)) (record {
        here = refl;
        term = VariableTerm v.0 v.1;
        means = e;
        typed = refl;
        taken = taken;
        numbered = numbered;
        own = λ w q. let same : v ≡ w = (cc) in count ∙ (same_length h.variables ∙ (sym own_number ∙ ap (number_from 0 (with_variable vs v)) same));
        parts = λ o ts t q. absurd (cc);
      });
    }
  where
    all_behind : (xs : List NodeId) → AllByRecursion (IsMarked (with_mark marks id n)) xs → AllByRecursion (IsMarked (with_mark marks id n)) (xs ++ id ∷ [])
    all_behind [] k = ((record { id = id; number = n }, new_mark marks id n p), tt)
    all_behind (x ∷ xs) k = (k.0, all_behind xs k.1)

-- ---- what a visit answers

pub some_there : {X : Type 0} (o : Option X) → is_some o ≡ true → (x : X) × (o ≡ Some x)
some_there (Some x) h = (x, refl)
some_there None h = absurd (false≢true h)

pub none_there : {X : Type 0} (o : Option X) → is_some o ≡ false → o ≡ None
none_there None h = refl
none_there (Some x) h = absurd (false≢true (sym h))

-- a node is marked that is no variable
pub visited : (old : Interner) (w x y : Walk) (vs ws : Variables) (t : PlainTerm) (id : NodeId) (n : ℕ) → walked vs t ≡ Ok ws → IsWalk old x ws → KeepsMarks w.marks.items x.marks.items → meaning_in old id ≡ Some (TermMeaning t) → typed t ≡ true
    → ((v : List ℕ × PlainType) → reached_variable t ≡ Some v → ⊥) → ((o : PlainOp) (ts : PlainTerms) (ty : PlainType) → t ≡ Application o ts ty → AllByRecursion (HasMark old x.marks.items) (list_of_terms ts))
    → y.marks.items ≡ with_mark x.marks.items id n → y.variables.items ≡ x.variables.items → Walks old w y (walked vs t) (id ∷ []) (done)
visited old w x y vs ws t id n e h kept means ty none_of parts ms is =
    let ns = with_mark x.marks.items id n in
    let p : place_of id < length x.marks.items = (let q = within old id (TermMeaning t) means in let k = h.places in omega (arith, q, k)) in
    let keeps = keeps_old x.marks.items id n p in
    let known = walks_number vs ws t e in
    let here : Sound old ns ws id n = record { here = refl; term = t; means = means; typed = ty; taken = known.0; numbered = known.1; own = λ v k. absurd (none_of v k); parts = λ o ts u k. marks_stay old x.marks.items ns (list_of_terms ts) keeps (parts o ts u k) } in
    let seen = marked old x.marks.items x.variables.items ws id n h p here in (
      ws,
      e,
      subst (λ (l : List (Option Seen)). HasSeen old l y.variables.items ws) (sym ms) (subst (λ (l : List NodeId). HasSeen old ns l ws) (sym is) seen),
      subst (λ (l : List (Option Seen)). KeepsMarks w.marks.items l) (sym ms) (kept_twice w.marks.items x.marks.items ns kept keeps),
      ((record { id = id; number = n }, ap (λ (l : List (Option Seen)). mark_in l (place_of id)) ms ∙ new_mark x.marks.items id n p), tt),
    )

-- a new variable is met
pub met_variable : (old : Interner) (w y : Walk) (vs : Variables) (t : PlainTerm) (name : List ℕ) (type : PlainType) (id : NodeId) (n : ℕ) (more : List NodeId) → t ≡ VariableTerm name type → type_refusal type ≡ None → IsWalk old w vs → mark_in w.marks.items (place_of id) ≡ None
    → meaning_in old id ≡ Some (TermMeaning t) → n ≡ length w.variables.items → more ≡ w.variables.items ++ id ∷ [] → y.marks.items ≡ with_mark w.marks.items id n → y.variables.items ≡ more → Walks old w y (walked vs t) (id ∷ []) (done)
met_variable old w y vs t name type id n more is taken h unmarked means count e ms fs =
    let ns = with_mark w.marks.items id n in
    let p : place_of id < length w.marks.items = (let q = within old id (TermMeaning t) means in let k = h.places in omega (arith, q, k)) in
    let answer : walked vs t ≡ Ok (with_variable vs (name, type)) = ap (walked vs) is ∙ ap (λ f. unless_refused f (with_variable vs (name, type))) taken in
    let known = walks_number vs (with_variable vs (name, type)) t answer in
    let here : IsVariable old id (name, type) = means ∙ ap (λ u. Some (TermMeaning u)) is in
    let seen = variable_marked old w.marks.items w.variables.items more vs id (name, type) n h unmarked here p count e (sym (ap term_refusal is) ∙ known.0) (subst (AreNumbered (with_variable vs (name, type))) is known.1) in (
      with_variable vs (name, type),
      answer,
      subst (λ (l : List (Option Seen)). HasSeen old l y.variables.items (with_variable vs (name, type))) (sym ms) (subst (λ (l : List NodeId). HasSeen old ns l (with_variable vs (name, type))) (sym fs) seen),
      subst (λ (l : List (Option Seen)). KeepsMarks w.marks.items l) (sym ms) (keeps_old w.marks.items id n p),
      ((record { id = id; number = n }, ap (λ (l : List (Option Seen)). mark_in l (place_of id)) ms ∙ new_mark w.marks.items id n p), tt),
    )

never_ok : (f : PlainFunction) (r : Result Variables Refusal) (ws : Variables) → behind_parts (UufOp f) r ≡ Ok ws → ⊥
never_ok f (Ok us) ws h = cc
never_ok f (Err q) ws h = cc

-- a call is refused
pub call_refused : (old : Interner) (w x : Walk) (f : PlainFunction) (r s : Result Variables Refusal) (ids : List NodeId) (a : Result (Unit {0}) BlastError) → s ≡ behind_parts (UufOp f) r → Walks old w x (behind_parts (UufOp f) r) [] a → Walks old w x s ids a
call_refused old w x f r s ids (Ok u) e (ws, k, walk, kept, marks) = absurd (never_ok f r ws k)
call_refused old w x f r s ids (Err q) e h = subst (λ z. Refuses z q) (sym e) h

-- ---- walks over terms one after the other

-- so far the walk over terms is that over what is left, from what it has seen
pub record Walking (old : Interner) (w x : Walk) (vs : Variables) (ts : PlainTerms) (ids : List NodeId) (k : ℕ) : Type 0 where
  pub left : PlainTerms
  pub now : Variables
  pub same : walked_all vs ts ≡ walked_all now left
  pub found : all_found (meanings (nodes_of old)) (places_of (drop k ids)) ≡ Some (map TermMeaning (list_of_terms left))
  pub typed : typed_all left ≡ true
  pub walk : IsWalk old x now
  pub kept : KeepsMarks w.marks.items x.marks.items
  pub marked : AllByRecursion (IsMarked x.marks.items) (take k ids)

pub walking_begins : (old : Interner) (w : Walk) (vs : Variables) (ts : PlainTerms) (ids : List NodeId) → all_found (meanings (nodes_of old)) (places_of ids) ≡ Some (map TermMeaning (list_of_terms ts)) → typed_all ts ≡ true → IsWalk old w vs → Walking old w w vs ts ids 0
walking_begins old w vs ts ids e ty h = record { left = ts; now = vs; same = refl; found = e; typed = ty; walk = h; kept = λ id k. k; marked = tt }

no_term_left : (old : Interner) (left : PlainTerms) → Some [] ≡ Some (map TermMeaning (list_of_terms left)) → left ≡ no_terms
no_term_left old no_terms h = refl
no_term_left old (one_term t ts) h = absurd (cc)

pub walking_ends : (old : Interner) (w x : Walk) (vs : Variables) (ts : PlainTerms) (ids : List NodeId) (k : ℕ) → length ids ≤ k → Walking old w x vs ts ids k → Walks old w x (walked_all vs ts) ids (done)
walking_ends old w x vs ts ids k n h =
    let none_left = no_term_left old h.left (sym (ap (λ (l : List NodeId). all_found (meanings (nodes_of old)) (places_of l)) (drop_all k ids n)) ∙ h.found) in
    (h.now, h.same ∙ ap (walked_all h.now) none_left, h.walk, h.kept, subst (AllByRecursion (IsMarked x.marks.items)) (take_all k ids n) h.marked)

-- the next term of a walk
pub record NextTerm (old : Interner) (left : PlainTerms) (id : NodeId) (ids : List NodeId) : Type 0 where
  pub term : PlainTerm
  pub others : PlainTerms
  pub is : left ≡ one_term term others
  pub means : meaning_in old id ≡ Some (TermMeaning term)
  pub found : all_found (meanings (nodes_of old)) (places_of ids) ≡ Some (map TermMeaning (list_of_terms others))

pub nothing_found : (a : Option Meaning) (b : Option (List Meaning)) → option_and_then (λ x. option_map (λ (rest : List Meaning). x ∷ rest) b) a ≡ Some [] → ⊥
nothing_found (Some x) (Some y) h = cc
nothing_found (Some x) None h = cc
nothing_found None b h = cc

next_term : (old : Interner) (left : PlainTerms) (id : NodeId) (ids : List NodeId) → all_found (meanings (nodes_of old)) (places_of (id ∷ ids)) ≡ Some (map TermMeaning (list_of_terms left)) → NextTerm old left id ids
next_term old no_terms id ids h = absurd (nothing_found (found (meanings (nodes_of old)) (place_of id)) (all_found (meanings (nodes_of old)) (places_of ids)) h)
next_term old (one_term t ts) id ids h =
    let (here, there) = split_found (meanings (nodes_of old)) (place_of id) (places_of ids) (TermMeaning t) (map TermMeaning (list_of_terms ts)) h in
    record { term = t; others = ts; is = refl; means = here; found = there }

pub next_at : (old : Interner) (w x : Walk) (vs : Variables) (ts : PlainTerms) (ids : List NodeId) (k : ℕ) (d : NodeId) → k < length ids → (h : Walking old w x vs ts ids k) → NextTerm old h.left (get_or ids k d) (drop (k + 1) ids)
next_at old w x vs ts ids k d n h = next_term old h.left (get_or ids k d) (drop (k + 1) ids) (sym (ap (λ (l : List NodeId). all_found (meanings (nodes_of old)) (places_of l)) (drop_more ids k d n)) ∙ h.found)

pub next_typed : (old : Interner) (left : PlainTerms) (id : NodeId) (ids : List NodeId) → typed_all left ≡ true → (n : NextTerm old left id ids) → (typed n.term ≡ true) × (typed_all n.others ≡ true)
next_typed old left id ids h n = and_parts (typed n.term) (typed_all n.others) (sym (ap typed_all n.is) ∙ h)

abbrev behind_one : PlainTerms → Result Variables Refusal → Result Variables Refusal
behind_one ts (Ok ws) = walked_all ws ts
behind_one ts (Err r) = Err r

walked_one : (vs : Variables) (t : PlainTerm) (ts : PlainTerms) → walked_all vs (one_term t ts) ≡ behind_one ts (walked vs t)
walked_one vs t ts = by (walked vs t)
  where
    by : (r : Result Variables Refusal) → ◌≡◌ {A = Result Variables Refusal} (elim r [ Ok ws ↦ walked_all ws ts | Err q ↦ Err q ]) (behind_one ts r)
    by (Ok ws) = refl
    by (Err q) = refl

refused_first : (ts : PlainTerms) (r : Result Variables Refusal) (e : BlastError) → Refuses r e → Refuses (behind_one ts r) e
refused_first ts r (Unsupported op) h = ap (behind_one ts) h
refused_first ts r (UnsupportedType ty) h = ap (behind_one ts) h
refused_first ts r Memory h = tt

-- the next term's refusal is that of all
pub walking_refused : (old : Interner) (w x : Walk) (vs : Variables) (ts : PlainTerms) (ids rest : List NodeId) (k : ℕ) (id : NodeId) (h : Walking old w x vs ts ids k) (n : NextTerm old h.left id rest) (e : BlastError) → Refuses (walked h.now n.term) e → Refuses (walked_all vs ts) e
walking_refused old w x vs ts ids rest k id h n e r =
    subst (λ z. Refuses z e) (sym (h.same ∙ ap (walked_all h.now) n.is ∙ walked_one h.now n.term n.others)) (refused_first n.others (walked h.now n.term) e r)

-- one more term
pub walking_on : (old : Interner) (w x y : Walk) (vs : Variables) (ts : PlainTerms) (ids : List NodeId) (k : ℕ) (d : NodeId) → k < length ids → (h : Walking old w x vs ts ids k) (n : NextTerm old h.left (get_or ids k d) (drop (k + 1) ids))
    → Walks old x y (walked h.now n.term) (get_or ids k d ∷ []) (done) → Walking old w y vs ts ids (k + 1)
walking_on old w x y vs ts ids k d less h n (ws, e, walk, kept, marked) = record {
  left = n.others;
  now = ws;
  same = h.same ∙ ap (walked_all h.now) n.is ∙ walked_one h.now n.term n.others ∙ ap (behind_one n.others) e;
  found = n.found;
  typed = (next_typed old h.left (get_or ids k d) (drop (k + 1) ids) h.typed n).1;
  walk = walk;
  kept = kept_twice w.marks.items x.marks.items y.marks.items h.kept kept;
  marked = subst (AllByRecursion (IsMarked y.marks.items)) (sym (take_more ids k d less)) (all_last (take k ids) (get_or ids k d) (all_marked_stay x.marks.items y.marks.items (take k ids) kept h.marked) marked.0);
}
  where
    all_last : (xs : List NodeId) (z : NodeId) → AllByRecursion (IsMarked y.marks.items) xs → IsMarked y.marks.items z → AllByRecursion (IsMarked y.marks.items) (xs ++ z ∷ [])
    all_last [] z a b = (b, tt)
    all_last (c ∷ xs) z a b = (a.0, all_last xs z a.1 b)

-- ---- circuits and literals

pub no_circuit : {P : Type 0} (o : Option Circuit) → is_some o ≡ false → IfNone o P → P
no_circuit None h p = p
no_circuit (Some k) h p = absurd (false≢true (sym h))

has_circuit : (k : Circuit) → is_supported (operator_of k) ≡ true
has_circuit (Logic And) = refl
has_circuit (Logic Not) = refl
has_circuit (Logic Or) = refl
has_circuit Equal = refl
has_circuit Choice = refl
has_circuit (Sum Carry) = refl
has_circuit (Sum Borrow) = refl
has_circuit (Overflow Carry) = refl
has_circuit (Overflow Borrow) = refl
has_circuit Negation = refl
has_circuit NegationOverflow = refl
has_circuit (Shift Up) = refl
has_circuit (Shift Down) = refl
has_circuit (Test x) = refl
has_circuit (ZeroExtension n) = refl

pub a_circuit : (o : PlainOp) (k : Option Circuit) → is_some k ≡ true → IfSome k (λ x. o ≡ operator_of x) → is_supported o ≡ true
a_circuit o None h p = absurd (false≢true h)
a_circuit o (Some x) h p = ap is_supported p ∙ has_circuit x

pub literal_walked : (vs : Variables) (l : PlainLiteral) → type_refusal (literal_type l) ≡ None → walked vs (LiteralTerm l) ≡ Ok vs
literal_walked vs l h = ap (λ f. unless_refused f vs) h
