-- Look-ups that are left.
use Rattle.std.proofs.Common.{◌≡◌, ◌≤◌, ◌+◌, ◌&&◌, ℕ, zero, suc, Bool, true, false, IsTrue, List, [], ◌∷◌, refl, ap, subst, ◌∙◌, arith, Option, Some, None}
use Rattle.std.specs.Prelude.{is_none, slice_get}
use Rattle.std.specs.Prelude.{IfOk, OnOk, Result, Ok, Err}
use Rattle.std.specs.Rc.{rc_str_bytes}
use Rattle.std.specs.declared.alloc.Global.{Global}
use Rattle.std.specs.declared.rc.RcStr.{RcStr}
use Rattle.law_terms.specs.Nodes.{PlainNode}
use Rattle.smt_nodes.specs.Interned.{nodes_of}
use Rattle.smt_nodes.specs.View.{place_of}
use Rattle.smt_nodes.specs.declared.id.NodeId.{NodeId}
use Rattle.smt_nodes.specs.declared.interner.Interner.{Interner}
use Rattle.smt_spelling.specs.Names.{nodes_under, texts_under}
use Rattle.smt_spelling.specs.LookUps.{look_ups, look_ups_at, look_ups_from, look_ups_left, look_ups_of}
use Rattle.smt_spelling.specs.NodeTexts.{text_at}
use Rattle.smt_encode.specs.Steps.{look_ups_in}
use Rattle.smt_encode.specs.declared.writer.Writer.{Writer}
use Rattle.smt_spelling.specs.declared.node_names.NodeNames.{NodeNames}

-- a smaller set has no more
at_most : (b a : Bool) (node : PlainNode) → (IsTrue b → IsTrue a) → look_ups_at b node ≤ look_ups_at a node
at_most false a node h = omega (arith)
at_most true false node h = let no : IsTrue false = h refl in absurd (cc)
at_most true true node h = omega (arith)

pub fewer : (b a : ℕ → Bool) (place : ℕ) (nodes : List PlainNode) → ((p : ℕ) → IsTrue (b p) → IsTrue (a p)) → look_ups_from b place nodes ≤ look_ups_from a place nodes
fewer b a place [] h = omega (arith)
fewer b a place (node ∷ nodes) h =
    let one : look_ups_at (b place) node ≤ look_ups_at (a place) node = at_most (b place) (a place) node (h place) in
    let more : look_ups_from b (suc place) nodes ≤ look_ups_from a (suc place) nodes = fewer b a (suc place) nodes h in
    omega (arith, one, more)

-- and fewer by the look-ups of a node that it lacks
pub fewer_by : (b a : ℕ → Bool) (first i place : ℕ) (nodes : List PlainNode) (node : PlainNode) → ((p : ℕ) → IsTrue (b p) → IsTrue (a p)) → place ≡ first + i → slice_get nodes i ≡ Some node → a place ≡ true → b place ≡ false
    → look_ups_from b first nodes + look_ups_of node ≤ look_ups_from a first nodes
fewer_by b a first i place [] node h is at there gone = absurd (cc)
fewer_by b a first zero place (n ∷ nodes) node h is at there gone =
    let same : first ≡ place = omega (arith, is) in
    let more : look_ups_from b (suc first) nodes ≤ look_ups_from a (suc first) nodes = fewer b a (suc first) nodes h in
    let x : look_ups_at (a first) n ≡ look_ups_of node = ap (λ t. look_ups_at t n) (ap a same ∙ there) ∙ ap look_ups_of (inside at) in
    let y : look_ups_at (b first) n ≡ 0 = ap (λ t. look_ups_at t n) (ap b same ∙ gone) in
    omega (arith, more, x, y)
  where
    inside : {n node : PlainNode} → Some n ≡ Some node → n ≡ node
    inside e = cc
fewer_by b a first (suc i) place (n ∷ nodes) node h is at there gone =
    let one : look_ups_at (b first) n ≤ look_ups_at (a first) n = at_most (b first) (a first) n (h first) in
    let more : look_ups_from b (suc first) nodes + look_ups_of node ≤ look_ups_from a (suc first) nodes = fewer_by b a (suc first) i place nodes node h (omega (arith, is)) at there gone in
    omega (arith, one, more)

-- ---- what a text more leaves

-- a node without a text had none before
none_before : (t : Bool) (a b : Option (List ℕ)) → ((text : List ℕ) → a ≡ Some text → b ≡ Some text) → IsTrue (t && is_none b) → IsTrue (t && is_none a)
none_before false a b keeps h = h
none_before true None b keeps h = refl
none_before true (Some text) b keeps h = let no : IsTrue (is_none (Some text)) = subst (λ (o : Option (List ℕ)). IsTrue (is_none o)) (keeps text refl) h in absurd (cc)

is_left : (t : Bool) (a : Option (List ℕ)) → IsTrue t → a ≡ None → (t && is_none a) ≡ true
is_left false a h none = absurd (cc)
is_left true None h none = refl
is_left true (Some text) h none = absurd (cc)

is_gone : (t : Bool) (a : Option (List ℕ)) (text : List ℕ) → a ≡ Some text → (t && is_none a) ≡ false
is_gone false a text some = refl
is_gone true None text some = absurd (cc)
is_gone true (Some other) text some = refl

-- Behind a node's parts its text is kept: as many look-ups fewer are left as it takes.
pub node_counted : {S E : Type 0} (has : ℕ → Bool) (mid new : Writer S) (id : NodeId) (node : PlainNode) (result : Result (RcStr Global) E) (first steps count left : ℕ)
    → nodes_under new.names ≡ nodes_under mid.names → slice_get (nodes_of (nodes_under mid.names)) (place_of id) ≡ Some node → IsTrue (has (place_of id)) → text_at (texts_under mid.names) id ≡ None
    → ((id : NodeId) (text : List ℕ) → text_at (texts_under mid.names) id ≡ Some text → text_at (texts_under new.names) id ≡ Some text) → IfOk result (λ text. text_at (texts_under new.names) id ≡ Some (rc_str_bytes text))
    → count ≤ look_ups_of node → steps + look_ups_in has mid ≤ first + count + left → OnOk result (steps + look_ups_in has new ≤ first + left)
node_counted has mid new id node (Err e) first steps count left same at there none keeps kept fewer_parts h = tt
node_counted has mid new id node (Ok text) first steps count left same at there none keeps kept fewer_parts h =
    let i = place_of id in
    let less = fewer_by (λ p. has p && is_none (text_at (texts_under new.names) (record { place = p }))) (λ p. has p && is_none (text_at (texts_under mid.names) (record { place = p }))) 0 i i (nodes_of (nodes_under mid.names)) node
    (λ p. none_before (has p) (text_at (texts_under mid.names) (record { place = p })) (text_at (texts_under new.names) (record { place = p })) (keeps (record { place = p }))) (omega (arith)) at
    (is_left (has i) (text_at (texts_under mid.names) id) there none) (is_gone (has i) (text_at (texts_under new.names) id) (rc_str_bytes text) kept) in
    let e : look_ups_in has new ≡ look_ups (λ p. has p && is_none (text_at (texts_under new.names) (record { place = p }))) (nodes_of (nodes_under mid.names)) = ap (λ (n : Interner). look_ups_left has n (texts_under new.names)) same in
    omega (arith, less, e, fewer_parts, h)

-- no more look-ups are left than there are
pub left_within : (has : ℕ → Bool) (nodes : Interner) (names : NodeNames) → look_ups_left has nodes names ≤ look_ups has (nodes_of nodes)
left_within has nodes names = fewer _ has 0 (nodes_of nodes) (λ p. first_of (has p) _)
  where
    first_of : (t u : Bool) → IsTrue (t && u) → IsTrue t
    first_of true u h = refl
    first_of false u h = h
