-- Graphs node by node.
use Rattle.std.proofs.Common.{◌≡◌, ℕ, zero, suc, ◌<◌, ◌≤◌, List, [], ◌∷◌, ◌++◌, length, take, get_or, sym, ap, ◌∙◌, inl, inr, arith, subst}
use Rattle.std.proofs.lemmas.List.{get_or-take, length-take-le, take-append-le}
use Rattle.std.proofs.lemmas.Option.{get_or_from_slice_get, slice_get-get_or, slice_get_within}
use Rattle.std.proofs.Math.Seq.{take-append_seam, take-length, take-suc}
use Rattle.std.specs.Prelude.{Contains, IsTrue, Some, slice_get}
use Rattle.law_terms.specs.Fits.{fits}
use Rattle.law_terms.specs.Graphs.{IsGraph}
use Rattle.law_terms.specs.Nodes.{PlainNode}
use Rattle.law_terms.proofs.Places.{get_split}

-- A graph, node by node.
pub data Graph : List PlainNode → Type 0 where
  empty : Graph []
  grown : (ns : List PlainNode) (n : PlainNode) → Graph ns → IsTrue (fits ns n) → ¬ Contains ns n → Graph (ns ++ n ∷ [])

pub node_within : (ns : List PlainNode) (i : ℕ) → i < length ns → (n : PlainNode) × (slice_get ns i ≡ Some n)
node_within [] i h = absurd (omega arith)
node_within (n ∷ ns) i h = (get_or (n ∷ ns) i n, slice_get-get_or (n ∷ ns) i n h)

pub contains_at : (ns : List PlainNode) (j : ℕ) (n : PlainNode) → slice_get ns j ≡ Some n → Contains ns n
contains_at ns j n h = (j, slice_get_within ns j n h, get_or_from_slice_get ns j n n h)

pub place_in : (ns : List PlainNode) (n : PlainNode) → Contains ns n → (j : ℕ) × (slice_get ns j ≡ Some n)
place_in ns n (j, b, e) = (j, slice_get-get_or ns j n b ∙ ap Some e)

not_before : (ns : List PlainNode) → IsGraph ns → (k : ℕ) (n : PlainNode) → slice_get ns k ≡ Some n → k ≤ length ns → ¬ Contains (take k ns) n
not_before ns g k n h b (j, c, e) =
    let l : j < k = omega (arith, length-take-le k ns b) in
    let at : get_or ns j n ≡ n = sym (get_or-take k ns j n l) ∙ e in
    let here : slice_get ns j ≡ Some n = slice_get-get_or ns j n (omega arith) ∙ ap Some at in
    let same : j ≡ k = g.differ j k n here h in
    absurd (omega arith)

front : (ns : List PlainNode) → IsGraph ns → (k : ℕ) → k ≤ length ns → Graph (take k ns)
front ns g zero b = empty
front ns g (suc k) b =
    let (n, e) = node_within ns k (omega arith) in
    let more : take (suc k) ns ≡ take k ns ++ n ∷ [] = take-suc ns k n (omega arith) ∙ ap (λ m. take k ns ++ m ∷ []) (get_or_from_slice_get ns k n n e) in
    subst Graph (sym more) (grown (take k ns) n (front ns g k (omega arith)) (g.fit k n e) (not_before ns g k n e (omega arith)))

pub by_nodes : (ns : List PlainNode) → IsGraph ns → Graph ns
by_nodes ns g = subst Graph (take-length ns) (front ns g (length ns) (omega arith))

pub none_is : IsGraph []
none_is = record { fit = λ i n h. absurd (cc); differ = λ i j n h k. absurd (cc) }

pub grow : (ns : List PlainNode) (n : PlainNode) → IsGraph ns → IsTrue (fits ns n) → ¬ Contains ns n → IsGraph (ns ++ n ∷ [])
grow ns n g f new =
    record {
      fit = λ i m h. elim (get_split ns n i m h) [
        | inl e ↦ (let b : i < length ns = slice_get_within ns i m e in let F : List PlainNode → Type 0 = λ xs. IsTrue (fits xs m) in subst F (sym (take-append-le i ns (n ∷ []) (omega arith))) (g.fit i m e))
        | inr e ↦ (let F : List PlainNode → Type 0 = λ xs. IsTrue (fits xs m) in
            let at : take i (ns ++ n ∷ []) ≡ ns = ap (λ i. take i (ns ++ n ∷ [])) e.0 ∙ take-append_seam ns (n ∷ []) in
            subst F (sym at) (subst (λ m. IsTrue (fits ns m)) e.1 f))
      ];
      differ = λ i j m h k. elim (get_split ns n i m h) [
        | inl a ↦ elim (get_split ns n j m k) [ inl b ↦ g.differ i j m a b | inr b ↦ absurd (new (contains_at ns i n (a ∙ ap Some (sym b.1)))) ]
        | inr a ↦ elim (get_split ns n j m k) [ inl b ↦ absurd (new (contains_at ns j n (b ∙ ap Some (sym a.1)))) | inr b ↦ a.0 ∙ sym b.0 ]
      ];
    }
