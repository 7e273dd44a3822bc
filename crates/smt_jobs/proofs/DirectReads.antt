-- Terms that are read from their bytes as numbered nodes.
use Rattle.std.proofs.Common.{◌≡◌, ℕ, ◌+◌, ◌≤◌, List, [], ◌∷◌, ◌++◌, Option, Some, None, Ok, Err, Result, true, Bor, codes, get_or, map, nat_eq, refl, sym, ap, ◌∙◌, subst, arith}
use Rattle.std.proofs.lemmas.List.{map-append}
use Rattle.std.proofs.Math.Utf8.{scalars}
use Rattle.std.specs.Bool.{then_some}
use Rattle.std.specs.Cmp.{unsigned_Decides}
use Rattle.std.specs.Prelude.{IfSome, encode_utf8_all, option_and_then, option_map}
use Rattle.law_folding.specs.Built.{built, folded}
use Rattle.law_numbers.specs.Widths.{is_width}
use Rattle.law_terms.specs.Meanings.{all_found, meaning_at, meanings}
use Rattle.law_terms.specs.Nodes.{Meaning, TermMeaning, TypeMeaning}
use Rattle.law_terms.specs.Parts.{parts_in, term_parts}
use Rattle.law_terms.specs.Plain.{BoolType, PlainOp, PlainTerm, PlainType, VariableTerm}
use Rattle.law_terms.proofs.TermTotal.{types_decided}
use Rattle.law_terms.specs.Types.{result_type, type_of}
use Rattle.law_texts.specs.Lexicon.{Begin, End, Name, Number, Text, Word}
use Rattle.law_texts.specs.Reading.{Expression, Leaf, Nil, Cons, brackets, expressions, inside, nesting}
use Rattle.law_texts.specs.Reads.{IfRead}
use Rattle.law_texts.specs.Tokens.{Spans}
use Rattle.law_texts.proofs.Spans.{joined, no_span}
use Rattle.smt_sexpr.proofs.TokenLists.{inside_is}
use Rattle.law_jobs.specs.Declarations.{Declarations, Declared as Stated, declared}
use Rattle.law_jobs.specs.Outcomes.{mapped}
use Rattle.law_texts.specs.Parts.{text_in}
use Rattle.law_jobs.specs.Terms.{bits_literal, condition_of, operator_named, term_of, terms_of}
use Rattle.law_jobs.proofs.SoundTerms.{AreSound, terms_sound}
use Rattle.smt_jobs.specs.Applied.{IsBuilt, StandForTerms}
use Rattle.smt_job_terms.specs.DeclarationView.{HasDeclared, HasVariables}
use Rattle.smt_job_terms.specs.declared.declaration.Declared.{Declared}
use Rattle.smt_nodes.specs.Interned.{meaning_in, nodes_of, KeepsMeanings, StandFor}
use Rattle.smt_nodes.specs.View.{place_of, places_of}
use Rattle.smt_nodes.specs.declared.id.NodeId.{NodeId}
use Rattle.smt_nodes.specs.declared.interner.Interner.{Interner}
use Rattle.smt_job_terms.proofs.Reading.{mapped_of}
use Rattle.smt_nodes.proofs.Fitting.{first_found}
use Rattle.smt_nodes.proofs.Interning.{all_kept, more_found}
use Rattle.smt_jobs.specs.Direct.{AreNumbered, IsConditionNumbered, IsNumbered, ReadsBehind, ReadsOf, with_head}
use Rattle.smt_jobs.specs.Walk.{ReadsSome}
use Rattle.smt_jobs.proofs.DirectLaws.{IsStatedApplication, IsStatedLiteral, application_stated, bits_stated, bracketed, one_deeper, terms_push, variable_stated}
use Rattle.smt_jobs.proofs.Walking.{read_more, read_more_is}
use Rattle.smt_job_terms.proofs.WholeTerms.{declared_formed, holds_of, is_condition, sound_typed}

-- ---- operands that are read so far

pub record Operands (d : Declared) (i : Interner) (ids : List NodeId) (src : List ℕ) (depth : ℕ) (rest : List ℕ) : Type 0 where
  pub some : ReadsSome src depth rest
  pub numbered : AreNumbered d i ids (expressions some.read)

pub no_operands : (d : Declared) (i : Interner) (ids : List NodeId) (src : List ℕ) (depth : ℕ) → ids ≡ [] → Operands d i ids src depth src
no_operands d i ids src depth none = record {
  some = record { read = []; span = no_span src; shallow = omega arith };
  numbered = ([], ap (λ l. all_found (meanings (nodes_of i)) (places_of l)) none, λ ds has. ([], refl, refl));
}

one_more : (i j : Interner) (ids more : List NodeId) (id : NodeId) (ts : List PlainTerm) (t : PlainTerm) → KeepsMeanings i j → StandFor i ids ts → more ≡ ids ++ id ∷ [] → meaning_in j id ≡ Some (TermMeaning t) → StandFor j more (ts ++ t ∷ [])
one_more i j ids more id ts t keeps h is meant =
    ap (λ l. all_found (meanings (nodes_of j)) (places_of l)) is
    ∙ ap (all_found (meanings (nodes_of j))) (map-append place_of ids (id ∷ []))
    ∙ more_found (meanings (nodes_of j)) (places_of ids) _ (place_of id) (TermMeaning t) (all_kept (nodes_of i) (nodes_of j) keeps ids _ h) meant
    ∙ ap Some (sym (map-append TermMeaning ts (t ∷ [])))

both_written : (ts ws : List PlainTerm) (t w : PlainTerm) → ts ≡ map built ws → t ≡ built w → ts ++ t ∷ [] ≡ map built (ws ++ w ∷ [])
both_written ts ws t w h k = (λ x. h x ++ k x ∷ []) ∙ sym (map-append built ws (w ∷ []))

all_read : (ds : Stated) {es fs : List Expression} {ts : List PlainTerm} → es ≡ fs → terms_of ds (expressions fs) ≡ Ok ts → terms_of ds (expressions es) ≡ Ok ts
all_read ds same h = ap (λ l. terms_of ds (expressions l)) same ∙ h

pub more_operands : (d : Declared) (i j : Interner) (ids more : List NodeId) (id : NodeId) (src between rest : List ℕ) (depth : ℕ) → Operands d i ids src depth between → KeepsMeanings i j → ReadsOf (IsNumbered d j id) between depth rest → more ≡ ids ++ id ∷ [] → Operands d j more src depth rest
more_operands d i j ids more id src between rest depth o keeps one is =
    let before = o.numbered in
    let this = one.is_so in
    record {
      some = read_more src between rest depth one.read o.some one.span one.shallow;
      numbered = (
        before.0 ++ this.0 ∷ [],
        one_more i j ids more id before.0 this.0 keeps before.1 is this.1,
        λ ds has. (
            let ws = before.2 ds has in
            let w = this.2 ds has in
            (ws.0 ++ w.0 ∷ [], all_read ds (read_more_is src between rest depth one.read o.some one.span one.shallow) (terms_push ds one.read w.0 w.1 o.some.read ws.0 ws.1), both_written before.0 ws.0 this.0 w.0 ws.2 w.2)
            ),
      );
    }

pub operands_stand : (d : Declared) (i : Interner) (ids : List NodeId) (src rest : List ℕ) (depth : ℕ) → Operands d i ids src depth rest → StandForTerms i ids
operands_stand d i ids src rest depth o = (o.numbered.0, o.numbered.1)

-- ---- the application to them

pub applied_there : (d : Declared) (i j : Interner) (o : PlainOp) (head : List ℕ) (ids : List NodeId) (id : NodeId) (src between rest : List ℕ) (depth : ℕ) (all : Operands d i ids src depth between) → Spans between (End ∷ []) rest → operator_named head ≡ Some o
    → IsBuilt j o all.numbered.0 id → ReadsBehind (λ es. IsNumbered d j id (with_head head es)) src depth rest
applied_there d i j o head ids id src between rest depth all closed named is =
    let ts = all.numbered.0 in
    record {
      read = expressions all.some.read;
      span = subst (λ ts. Spans src (ts ++ End ∷ []) rest) (sym (inside_is all.some.read)) (joined src between rest _ (End ∷ []) all.some.span closed);
      shallow = all.some.shallow;
      is_so = (
        folded o ts is.0,
        is.2,
        λ ds has. (
            let ws = all.numbered.2 ds has in
            let sound = holds_of AreSound (terms_of ds (expressions all.some.read)) ws.0 (terms_sound ds (declared_formed d ds has) (expressions all.some.read)) ws.1 in
            let given = ap (λ l. result_type o (map type_of l)) (sym ws.2) ∙ is.1 in
            let a : IsStatedApplication ds head (expressions all.some.read) (folded o (map built ws.0) is.0) = application_stated ds head (expressions all.some.read) o ws.0 is.0 named ws.1 (sound_typed ws.0 sound) given in
            (a.written, a.stated, ap (λ l. folded o l is.0) ws.2 ∙ sym a.is_built)
            ),
      );
    }

-- ---- brackets around what stands behind a head

pub headed_term : (d : Declared) (i : Interner) (id : NodeId) (head : List ℕ) (src behind rest : List ℕ) (depth inner : ℕ) → Spans src (Begin ∷ Word (Name head) ∷ []) behind → inner + 1 ≤ depth → ReadsBehind (λ es. IsNumbered d i id (with_head head es)) behind inner rest
    → ReadsOf (IsNumbered d i id) src depth rest
headed_term d i id head src behind rest depth inner s deep r = record {
  read = with_head head r.read;
  span = bracketed src behind rest head r.read s r.span;
  shallow = one_deeper head r.read depth inner r.shallow deep;
  is_so = r.is_so;
}

-- ---- what stands in brackets behind a head

its_text : (points : List ℕ) → scalars points ≡ true → encode_utf8_all points ≡ points → text_in (Leaf (Text points)) ≡ Some points
its_text points s e = ap (λ b. then_some b (encode_utf8_all points)) s ∙ ap Some e

module _ (d : Declared) (i : Interner) (id : NodeId) (src between rest : List ℕ) where
  one_text : (points : List ℕ) → Spans src (Word (Text points) ∷ []) between → Spans between (End ∷ []) rest → Spans src (inside (Cons (Leaf (Text points)) Nil) ++ End ∷ []) rest
  one_text points s t = joined src between rest (Word (Text points) ∷ []) (End ∷ []) s t

  pub variable_there : (points : List ℕ) → Spans src (Word (Text points) ∷ []) between → scalars points ≡ true → encode_utf8_all points ≡ points → Spans between (End ∷ []) rest → (name : List ℕ) (ty : PlainType) → meaning_in i id ≡ Some (TermMeaning (VariableTerm name ty))
      → ((vs : Declarations PlainType) → HasVariables d.variables vs → Some ty ≡ declared vs points) → ((vs : Declarations PlainType) → HasVariables d.variables vs → name ≡ points) → ReadsBehind (λ es. IsNumbered d i id (with_head (codes "var") es)) src 0 rest
  variable_there points s c e t name ty meant found same = record {
    read = Cons (Leaf (Text points)) Nil;
    span = one_text points s t;
    shallow = omega arith;
    is_so = (
      VariableTerm name ty,
      meant,
      λ ds has. (
        VariableTerm points ty,
        variable_stated ds points points ty (its_text points c e) (sym (found ds.variables has.variables)),
        ap (λ n. VariableTerm n ty) (same ds.variables has.variables),
      ),
    );
  }

pub bits_there : (d : Declared) (i : Interner) (id : NodeId) (src second between rest : List ℕ) (w n : ℕ) → Spans src (Word (Number w) ∷ []) second → Spans second (Word (Number n) ∷ []) between → Spans between (End ∷ []) rest → (t : PlainTerm) → option_and_then (λ w. bits_literal w n) (then_some (is_width w) w) ≡ Some t
    → meaning_in i id ≡ Some (TermMeaning t) → ReadsBehind (λ es. IsNumbered d i id (with_head (codes "bv") es)) src 0 rest
bits_there d i id src second between rest w n s r e t l meant = record {
  read = Cons (Leaf (Number w)) (Cons (Leaf (Number n)) Nil);
  span = joined src second rest (Word (Number w) ∷ []) (Word (Number n) ∷ End ∷ []) s (joined second between rest (Word (Number n) ∷ []) (End ∷ []) r e);
  shallow = omega arith;
  is_so = (t, meant, λ ds has. (let b : IsStatedLiteral ds w n t = bits_stated ds w n t l in (t, b.stated, sym b.stays)));
}

-- ---- terms by their expressions

pub whole_there : (d : Declared) (i : Interner) (id : NodeId) (e : Expression) (src rest : List ℕ) (depth : ℕ) (t : PlainTerm) → Spans src (brackets e) rest → nesting e ≤ depth → meaning_in i id ≡ Some (TermMeaning t) → ((ds : Stated) → HasDeclared d ds → mapped built (term_of ds e) ≡ Ok t) → ReadsOf (IsNumbered d i id) src depth rest
whole_there d i id e src rest depth t s n meant read = record {
  read = e;
  span = s;
  shallow = n;
  is_so = (t, meant, λ ds has. (let o = mapped_of built (term_of ds e) t (read ds has) in (o.stated, o.is_stated, o.is_mapped)));
}

pub head_there : (src behind : List ℕ) (r : Option (Bor (List ℕ) × Bor (List ℕ))) → Spans src (Begin ∷ []) behind → IfSome r (λ x. Spans behind (Word (Name x.0.now) ∷ []) x.1.now) → IfSome r (λ x. Spans src (Begin ∷ Word (Name x.0.now) ∷ []) x.1.now)
head_there src behind (Some x) s t = joined src behind x.1.now (Begin ∷ []) (Word (Name x.0.now) ∷ []) s t
head_there src behind None s t = tt

-- ---- conditions

pub condition_there : (d : Declared) (i j : Interner) (id truth : NodeId) (ids : List NodeId) (z : NodeId) (src rest : List ℕ) (depth : ℕ) (one : ReadsOf (IsNumbered d i id) src depth rest) → KeepsMeanings i j → meaning_in j truth ≡ Some (TypeMeaning BoolType)
    → IfSome (meaning_in j id) (λ m. all_found (meanings (nodes_of j)) (places_of ids) ≡ Some (parts_in m)) → nat_eq (place_of (get_or ids 0 z)) (place_of truth) ≡ true → ReadsOf (IsConditionNumbered d j id) src depth rest
condition_there d i j id truth ids z src rest depth one keeps is parts same =
    let (t, meant, states) = one.is_so in
    let there : meaning_in j id ≡ Some (TermMeaning t) = keeps id _ meant in
    let found : all_found (meanings (nodes_of j)) (places_of ids) ≡ Some (TypeMeaning (type_of t) ∷ term_parts t) = subst (λ (o : Option Meaning). IfSome o (λ m. all_found (meanings (nodes_of j)) (places_of ids) ≡ Some (parts_in m))) there parts in
    let type : meaning_in j (get_or ids 0 z) ≡ Some (TypeMeaning (type_of t)) = first_found (meanings (nodes_of j)) ids z (TypeMeaning (type_of t)) (term_parts t) found in
    let both : Some (TypeMeaning (type_of t)) ≡ Some (TypeMeaning BoolType) = sym type ∙ ap (meaning_at (nodes_of j)) ((unsigned_Decides (place_of (get_or ids 0 z)) (place_of truth)).0 same) ∙ is in
    let boolean : type_of t ≡ BoolType = cc in
    record {
      read = one.read;
      span = one.span;
      shallow = one.shallow;
      is_so = (
        t,
        there,
        λ ds has. (
            let w = states ds has in
            let o = mapped_of built (condition_of ds one.read) t (is_condition ds (declared_formed d ds has) one.read t (ap (mapped built) w.1 ∙ ap Ok (sym w.2)) ((types_decided (type_of t) BoolType).1 boolean)) in
            (o.stated, o.is_stated, o.is_mapped)
            ),
      );
    }

-- what stands behind a head is read, and the brackets and the head with it
pub headed_read : {E : Type 0} (d : Declared) (i : Interner) (r : Result (Option (NodeId × Bor (List ℕ))) E) (head src behind : List ℕ) (depth inner : ℕ) → Spans src (Begin ∷ Word (Name head) ∷ []) behind → inner + 1 ≤ depth
    → IfRead r (λ x. ReadsBehind (λ es. IsNumbered d i x.0 (with_head head es)) behind inner x.1.now) → IfRead r (λ x. ReadsOf (IsNumbered d i x.0) src depth x.1.now)
headed_read d i (Ok (Some x)) head src behind depth inner s deep h = headed_term d i x.0 head src behind x.1.now depth inner s deep h
headed_read d i (Ok None) head src behind depth inner s deep h = tt
headed_read d i (Err e) head src behind depth inner s deep h = tt

pub applied_read : (d : Declared) (i j : Interner) (o : PlainOp) (head : List ℕ) (ids : List NodeId) (src between rest : List ℕ) (depth : ℕ) (all : Operands d i ids src depth between) → Spans between (End ∷ []) rest → operator_named head ≡ Some o
    → (found : Option NodeId) (r : Option (NodeId × Bor (List ℕ))) → option_map (λ x. x.0) r ≡ found → IfSome r (λ x. x.1.now ≡ rest) → IfSome found (IsBuilt j o all.numbered.0) → IfSome r (λ x. ReadsBehind (λ es. IsNumbered d j x.0 (with_head head es)) src depth x.1.now)
applied_read d i j o head ids src between rest depth all closed named found (Some x) e b h =
    applied_there d i j o head ids x.0 src between x.1.now depth all (subst (Spans between (End ∷ [])) (sym b) closed) named (subst (λ (f : Option NodeId). IfSome f (IsBuilt j o all.numbered.0)) (sym e) h)
applied_read d i j o head ids src between rest depth all closed named found None e b h = tt
