-- What is equal to a folding stands for its application; how composites of shared terms are foldings.
use Rattle.std.proofs.Common.{◌≡◌, List, ap, ◌∙◌, sym, subst}
use Rattle.smt_ext.specs.IpOrder.{plain_range}
use Rattle.smt_ext.specs.IpRanges.{Range}
use Rattle.smt_ext.specs.IpRanges as ip
use Rattle.law_extensions.specs.ExtensionFunctions.{in_range, in_range_lit, in_range_v, is_in_range, is_ipv4, is_ipv6, is_loopback, is_multicast, loopback_v4, loopback_v6, multicast_v4, multicast_v6, range_v4, range_v6}
use Rattle.law_extensions.specs.Laws.{BothRefine}
use Rattle.law_folding.specs.Builder.{folding}
use Rattle.law_folding.specs.FoldExtensions.{extension_literal}
use Rattle.law_folding.specs.Refinement.{Refines}
use Rattle.law_terms.specs.Plain.{PlainExtension, PlainTerm}

pub stands_as : (r f a : PlainTerm) → r ≡ f → Refines f a → Refines r a
stands_as r f a e s = subst (λ (x : PlainTerm). Refines x a) (sym e) s

pub both_stand_as : (r f a : PlainTerm × PlainTerm) → r ≡ f → BothRefine f a → BothRefine r a
both_stand_as r f a e s = subst (λ (x : PlainTerm × PlainTerm). BothRefine x a) (sym e) s

-- the choice by the family, of terms that are given by name
pub literal_folds : (t : PlainTerm) (x y : PlainExtension) (g a b r : PlainTerm) → g ≡ is_ipv4 folding t → a ≡ in_range folding (range_v4 folding) t (extension_literal x) → b ≡ in_range folding (range_v6 folding) t (extension_literal y) → r ≡ folding.ite g a b → r ≡ in_range_lit folding t x y
literal_folds t x y g a b r e d f z = z ∙ λ i. folding.ite (e i) (d i) (f i)

pub any_folds : (t u : PlainTerm) (ts : List PlainTerm) (a b r : PlainTerm) → u ≡ t → a ≡ in_range_v folding (is_ipv4 folding) (range_v4 folding) u ts → b ≡ in_range_v folding (is_ipv6 folding) (range_v6 folding) t ts → r ≡ folding.or a b → r ≡ is_in_range folding t ts
any_folds t u ts a b r s e d z =
    let k : a ≡ in_range_v folding (is_ipv4 folding) (range_v4 folding) t ts = e ∙ ap (λ w. in_range_v folding (is_ipv4 folding) (range_v4 folding) w ts) s in
    z ∙ λ i. folding.or (k i) (d i)

pub loopback_folds : (t r : PlainTerm) (x y : Range) → x ≡ ip.loopback_v4 → y ≡ ip.loopback_v6 → r ≡ in_range_lit folding t (plain_range x) (plain_range y) → r ≡ is_loopback folding t
loopback_folds t r x y s z e =
    let p : plain_range x ≡ loopback_v4 = ap plain_range s in
    let q : plain_range y ≡ loopback_v6 = ap plain_range z in
    e ∙ λ i. in_range_lit folding t (p i) (q i)

pub multicast_folds : (t r : PlainTerm) (x y : Range) → x ≡ ip.multicast_v4 → y ≡ ip.multicast_v6 → r ≡ in_range_lit folding t (plain_range x) (plain_range y) → r ≡ is_multicast folding t
multicast_folds t r x y s z e =
    let p : plain_range x ≡ multicast_v4 = ap plain_range s in
    let q : plain_range y ≡ multicast_v6 = ap plain_range z in
    e ∙ λ i. in_range_lit folding t (p i) (q i)
