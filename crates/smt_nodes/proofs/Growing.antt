-- The nodes of an interner after a node is entered.
use Rattle.std.proofs.Common.{◌≡◌, ℕ, ◌<◌, ◌≤◌, ◌^◌, List, [], ◌∷◌, ◌++◌, length, map, Option, Some, true, refl, sym, ap, ◌∙◌, subst, ◌⊎◌, inl, arith, length-append}
use Rattle.std.proofs.lemmas.List.{length-map, map-append}
use Rattle.std.specs.Prelude.{Contains, IfOk, IsTrue, OnErr, OnOk, Result, Ok, Err}
use Rattle.std.specs.Option.{ForSome}
use Rattle.law_terms.specs.Plain.{BoolType}
use Rattle.law_terms.specs.Nodes.{PlainNode, Meaning, TypeMeaning}
use Rattle.law_terms.specs.Fits.{fits}
use Rattle.law_terms.specs.Graphs.{IsGraph}
use Rattle.law_terms.specs.Meanings.{meaning_at, meaning_of, meanings}
use Rattle.law_terms.proofs.Distinct.{no_older}
use Rattle.law_terms.proofs.Growth.{grow}
use Rattle.law_terms.proofs.Places.{last_has, meaning_stays}
use Rattle.smt_nodes.specs.Kinds.{is_bool_at}
use Rattle.smt_nodes.specs.View.{place_of, plain_node}
use Rattle.smt_nodes.specs.declared.id.NodeId.{NodeId}
use Rattle.smt_nodes.specs.declared.node.Node.{Node}

grown_nodes : (nodes more : List Node) (node : Node) → more ≡ nodes ++ node ∷ [] → map plain_node more ≡ map plain_node nodes ++ plain_node node ∷ []
grown_nodes nodes more node e = ap (map plain_node) e ∙ map-append plain_node nodes (node ∷ [])

new_means : (nodes more : List Node) (node : Node) (i : ℕ) → more ≡ nodes ++ node ∷ [] → i ≡ length nodes → meaning_at (map plain_node more) i ≡ meaning_of (meanings (map plain_node nodes)) (plain_node node)
new_means nodes more node i e h =
    ap (λ ns. meaning_at ns i) (grown_nodes nodes more node e) ∙ (ap (meaning_at (map plain_node nodes ++ plain_node node ∷ [])) (h ∙ sym (length-map nodes plain_node)) ∙ last_has (map plain_node nodes) (plain_node node))

new_keeps : (nodes more : List Node) (node : Node) → more ≡ nodes ++ node ∷ [] → (i : ℕ) (m : Meaning) → meaning_at (map plain_node nodes) i ≡ Some m → meaning_at (map plain_node more) i ≡ Some m
new_keeps nodes more node e i m h = ap (λ ns. meaning_at ns i) (grown_nodes nodes more node e) ∙ meaning_stays (map plain_node nodes) (plain_node node) i m h

abbrev Known : List PlainNode → PlainNode → Type 0
Known ns n = (id : NodeId) × (m : Meaning) × (meaning_at ns (place_of id) ≡ Some m) × (meaning_of (meanings ns) n ≡ Some m)

abbrev pub Grows : List PlainNode → List PlainNode → PlainNode → Type 0
Grows ns ks n = ((ks ≡ ns ++ n ∷ []) × ¬ Known ns n) ⊎ ((ks ≡ ns) × Known ns n)

new_grows : (nodes more : List Node) (node : Node) → more ≡ nodes ++ node ∷ [] → IsGraph (map plain_node nodes) → ¬ Contains (map plain_node nodes) (plain_node node) → Grows (map plain_node nodes) (map plain_node more) (plain_node node)
new_grows nodes more node e g new = inl (grown_nodes nodes more node e, λ (id, m, a, b). no_older (map plain_node nodes) g (plain_node node) new (place_of id) m a b)

-- ---- the nodes after a call that may have entered one
pub graph_after : {R E : Type 0} (nodes more : List Node) (node : Node) (r : Result R E) → IsGraph (map plain_node nodes) → IsTrue (fits (map plain_node nodes) (plain_node node)) → ¬ Contains (map plain_node nodes) (plain_node node)
    → OnOk r (more ≡ nodes ++ node ∷ []) → OnErr r (more ≡ nodes) → IsGraph (map plain_node more)
graph_after nodes more node (Ok x) g f new e s = subst IsGraph (sym (grown_nodes nodes more node e)) (grow (map plain_node nodes) (plain_node node) g f new)
graph_after nodes more node (Err x) g f new e s = subst (λ ns. IsGraph (map plain_node ns)) (sym s) g

pub few_after : {R E : Type 0} (nodes more : List Node) (node : Node) (r : Result R E) → length nodes ≤ 2 ^ 32 → OnOk r (length nodes < 2 ^ 32) → OnOk r (more ≡ nodes ++ node ∷ []) → OnErr r (more ≡ nodes) → length more ≤ 2 ^ 32
few_after nodes more node (Ok x) f g e s = (let k : length more ≡ length (nodes ++ node ∷ []) = ap length e in omega (arith, length-append nodes (node ∷ [])))
few_after nodes more node (Err x) f g e s = (let k : length more ≡ length nodes = ap length s in omega arith)

pub meaning_after : {E : Type 0} (nodes more : List Node) (node : Node) (r : Result NodeId E) → IfOk r (λ id. place_of id ≡ length nodes) → OnOk r (more ≡ nodes ++ node ∷ [])
    → IfOk r (λ id. meaning_at (map plain_node more) (place_of id) ≡ meaning_of (meanings (map plain_node nodes)) (plain_node node))
meaning_after nodes more node (Ok id) p e = new_means nodes more node (place_of id) e p
meaning_after nodes more node (Err x) p e = tt

pub kept_after : {R E : Type 0} (nodes more : List Node) (node : Node) (r : Result R E) → OnOk r (more ≡ nodes ++ node ∷ []) → OnErr r (more ≡ nodes)
    → (i : ℕ) (m : Meaning) → meaning_at (map plain_node nodes) i ≡ Some m → meaning_at (map plain_node more) i ≡ Some m
kept_after nodes more node (Ok x) e s i m h = new_keeps nodes more node e i m h
kept_after nodes more node (Err x) e s i m h = ap (λ ns. meaning_at (map plain_node ns) i) s ∙ h

pub grown_after : {R E : Type 0} (nodes more : List Node) (node : Node) (r : Result R E) → IsGraph (map plain_node nodes) → ¬ Contains (map plain_node nodes) (plain_node node)
    → OnOk r (more ≡ nodes ++ node ∷ []) → OnOk r (Grows (map plain_node nodes) (map plain_node more) (plain_node node))
grown_after nodes more node (Ok x) g new e = new_grows nodes more node e g new
grown_after nodes more node (Err x) g new e = tt

-- ---- the type of truth values
pub bool_there : (o : Option Meaning) → is_bool_at o ≡ true → o ≡ Some (TypeMeaning BoolType)
bool_there (Some (TypeMeaning BoolType)) h = refl
bool_there o h = absurd (cc)

-- what stood for it still does
pub truths_after : {R E : Type 0} (nodes more : List Node) (node : Node) (r : Result R E) (o : Option NodeId) → OnOk r (more ≡ nodes ++ node ∷ []) → OnErr r (more ≡ nodes)
    → ForSome o (λ id. IsTrue (is_bool_at (meaning_at (map plain_node nodes) (place_of id)))) → ForSome o (λ id. IsTrue (is_bool_at (meaning_at (map plain_node more) (place_of id))))
truths_after nodes more node r o e s h = λ id a. ap is_bool_at (kept_after nodes more node r e s (place_of id) (TypeMeaning BoolType) (bool_there (meaning_at (map plain_node nodes) (place_of id)) (h id a)))
