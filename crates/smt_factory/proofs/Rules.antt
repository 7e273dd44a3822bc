-- The loop over the ranges in which a range may lie, by who builds: what has come so far, and what comes of the ranges left, is
-- what comes of all.
use Rattle.std.proofs.Common.{◌≡◌, ℕ, ◌+◌, ◌<◌, ◌≤◌, List, [], ◌∷◌, map, drop, length, get_or, refl, ap, ◌∙◌, sym, subst}
use Rattle.std.proofs.lemmas.List.{at_drop_more, at_drop_all}
use Rattle.law_numbers.specs.BitOperators.{BvuleOp}
use Rattle.law_extensions.specs.ExtensionFunctions.{in_one_from, in_range, in_range_v, lowest_address, range_by}
use Rattle.law_extensions.specs.Laws.{BothRefine}
use Rattle.law_extensions.proofs.RuleTells.{two_formed}
use Rattle.smt_factory.specs.Pairs.{last_from, lies_in, plain_pair}
use Rattle.law_folding.specs.Applications.{false_term, test_of_two}
use Rattle.law_folding.specs.Builder.{Builder, applied, folding}
use Rattle.law_folding.specs.FoldConnectives.{folded_and, folded_or}
use Rattle.law_folding.specs.Refinement.{Refines}
use Rattle.law_folding.proofs.FoldingsKeep.{related}
use Rattle.law_folding.proofs.Standing.{itself}
use Rattle.law_terms.specs.Formed.{IsFormed}
use Rattle.law_terms.specs.Plain.{AndOp, OrOp, PlainTerm, TestOp}
use Rattle.smt_term.proofs.FormedTerms.{terms_are_formed}
use Rattle.smt_term.specs.View.{plain_term}
use Rattle.smt_term.specs.declared.term.Term.{Term}

-- one range in another, by what a call gives of each
pub lies_in_folds : (given : PlainTerm → (PlainTerm × PlainTerm)) (t u r : PlainTerm) (p q : PlainTerm × PlainTerm) → p ≡ given t → q ≡ given u → r ≡ lies_in folding p q → r ≡ in_range folding given t u
lies_in_folds given t u r p q s z e = e ∙ λ i. lies_in folding (s i) (z i)

pub lies_in_stands : (original : PlainTerm → (PlainTerm × PlainTerm)) (t u r : PlainTerm) (p q : PlainTerm × PlainTerm) → BothRefine p (original t) → BothRefine q (original u) → r ≡ lies_in folding p q → Refines r (in_range applied original t u)
lies_in_stands original t u r p q s z e =
    let k : Refines (lies_in folding p q) (in_range applied original t u) = related.and (related.test BvuleOp s.1 z.1) (related.test BvuleOp z.0 s.0) in
    subst (λ (x : PlainTerm). Refines x (in_range applied original t u)) (sym e) k

-- a pair of addresses, the second by the first
pub pair_folds : (n : ℕ) (a f l h : PlainTerm) → l ≡ lowest_address folding a f → h ≡ last_from n l f → (l, h) ≡ range_by folding n a f
pair_folds n a f l h e d =
    let k : h ≡ last_from n (lowest_address folding a f) f = d ∙ ap (λ x. last_from n x f) e in
    λ i. (e i, k i)

-- one range in a literal
pub block_folds : (given : PlainTerm → (PlainTerm × PlainTerm)) (t u x r : PlainTerm) (p q : PlainTerm × PlainTerm) → u ≡ x → p ≡ given t → q ≡ given u → r ≡ lies_in folding p q → r ≡ in_range folding given t x
block_folds given t u x r p q n s z e = lies_in_folds given t x r p q s (z ∙ ap given n) e

-- what the foldings give of terms is, or stands for, what is built of theirs, or what is built is formed
pub record Follows (b : Builder) (R : PlainTerm → PlainTerm → Type 0) : Type 0 where
  pub first : R false_term false_term
  pub and : {t u x y : PlainTerm} → R t x → R u y → R (folded_and t u) (b.and x y)
  pub or : {t u x y : PlainTerm} → R t x → R u y → R (folded_or t u) (b.or x y)

pub folds : Follows folding (λ t u. t ≡ u)
folds = record {
  first = refl;
  and = λ s z i. folded_and (s i) (z i);
  or = λ s z i. folded_or (s i) (z i);
}

pub stands : Follows applied Refines
stands = record { first = itself false_term; and = related.and; or = related.or }

-- what is built of formed terms is formed
abbrev pub IsFormedBeside : PlainTerm → PlainTerm → Type 0
IsFormedBeside given built = IsFormed built

pub builds_formed : Follows applied IsFormedBeside
builds_formed = record {
  first = record { literals = (tt, tt); types = ((tt, tt), tt) };
  and = λ {t} {u} {x} {y} h k. two_formed AndOp x y h k;
  or = λ {t} {u} {x} {y} h k. two_formed OrOp x y h k;
}

-- one range in another, by what a call gives of each, which are terms of the program
pub lies_in_formed : (given : PlainTerm → (PlainTerm × PlainTerm)) (t u : PlainTerm) (p q : Term × Term) → plain_pair p ≡ given t → plain_pair q ≡ given u → IsFormed (in_range applied given t u)
lies_in_formed given t u p q s z =
    let here : IsFormed (lies_in applied (plain_pair p) (plain_pair q)) =
    two_formed AndOp (test_of_two (TestOp BvuleOp) (plain_term p.1) (plain_term q.1)) (test_of_two (TestOp BvuleOp) (plain_term q.0) (plain_term p.0))
    (two_formed (TestOp BvuleOp) (plain_term p.1) (plain_term q.1) (terms_are_formed p.1) (terms_are_formed q.1))
    (two_formed (TestOp BvuleOp) (plain_term q.0) (plain_term p.0) (terms_are_formed q.0) (terms_are_formed p.0)) in
    subst (λ (x : PlainTerm × PlainTerm). IsFormed (lies_in applied x (given u))) s (subst (λ (y : PlainTerm × PlainTerm). IsFormed (lies_in applied (plain_pair p) y)) z here)

-- what a test gives of a term, which is a term of the program
pub test_formed : (is_ip : PlainTerm → PlainTerm) (t : PlainTerm) (u : Term) → plain_term u ≡ is_ip t → IsFormed (is_ip t)
test_formed is_ip t u e = subst IsFormed e (terms_are_formed u)

module _ (b : Builder) (R : PlainTerm → PlainTerm → Type 0) (is_ip : PlainTerm → PlainTerm) (range : PlainTerm → (PlainTerm × PlainTerm)) (t : PlainTerm) where
  abbrev pub Leads : (ts left : List Term) → PlainTerm → Type 0
  Leads ts left any = (v : PlainTerm) × R any v × (in_one_from b is_ip range t v (map plain_term left) ≡ in_one_from b is_ip range t false_term (map plain_term ts))

  module _ (f : Follows b R) where
    pub leads_first : (ts : List Term) (any : PlainTerm) → any ≡ false_term → Leads ts ts any
    leads_first ts any e = (false_term, subst (λ (y : PlainTerm). R y false_term) (sym e) f.first, refl)

    pub leads_on : (ts : List Term) (i : ℕ) (any next of_family lies both asked inner outer : PlainTerm) (x : Term) → i < length ts → x ≡ get_or ts i x
        → asked ≡ plain_term x → inner ≡ t → outer ≡ plain_term x → next ≡ folded_or any both → both ≡ folded_and of_family lies
        → R of_family (is_ip asked) → R lies (in_range b range inner outer) → Leads ts (drop i ts) any → Leads ts (drop (i + 1) ts) next
    leads_on ts i any next of_family lies both asked inner outer x l is a n o e k s z (v, q, h) =
        let d : drop i ts ≡ x ∷ drop (i + 1) ts = at_drop_more (λ (w : List Term). w) ts i x l ∙ ap (λ w. w ∷ drop (i + 1) ts) (sym is) in
        let w : PlainTerm = b.or v (b.and (is_ip (plain_term x)) (in_range b range t (plain_term x))) in
        let s1 : R of_family (is_ip (plain_term x)) = subst (λ (y : PlainTerm). R of_family (is_ip y)) a s in
        let z1 : R lies (in_range b range t outer) = subst (λ (y : PlainTerm). R lies (in_range b range y outer)) n z in
        let z2 : R lies (in_range b range t (plain_term x)) = subst (λ (y : PlainTerm). R lies (in_range b range t y)) o z1 in
        let g : next ≡ folded_or any (folded_and of_family lies) = e ∙ ap (folded_or any) k in
        (w, subst (λ (y : PlainTerm). R y w) (sym g) (f.or q (f.and s1 z2)), ap (λ (us : List Term). in_one_from b is_ip range t v (map plain_term us)) (sym d) ∙ h)

    pub leads_last : (ts : List Term) (i : ℕ) (any r of_family : PlainTerm) → length ts ≤ i → r ≡ folded_and of_family any → R of_family (is_ip t) → Leads ts (drop i ts) any → R r (in_range_v b is_ip range t (map plain_term ts))
    leads_last ts i any r of_family l e s (v, k, h) =
        let d : drop i ts ≡ [] = at_drop_all (λ (w : List Term). w) ts i l in
        let q : v ≡ in_one_from b is_ip range t false_term (map plain_term ts) = ap (λ (us : List Term). in_one_from b is_ip range t v (map plain_term us)) (sym d) ∙ h in
        let P : PlainTerm → Type 0 = λ y. R y (in_range_v b is_ip range t (map plain_term ts)) in
        let Q : PlainTerm → Type 0 = λ y. R any y in
        subst P (sym e) (f.and s (subst Q q k))
