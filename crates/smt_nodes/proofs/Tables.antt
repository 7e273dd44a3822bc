-- The table of nodes: what it finds, and what it finds after one node more.
use Rattle.std.proofs.Common.{◌≡◌, ℕ, ◌<◌, Bool, true, false, ◌&&◌, cond, nat_eq, List, [], ◌∷◌, ◌++◌, length, map, Option, Some, None, refl, sym, ap, ◌∙◌, subst, ◌⊎◌, inl, inr}
use Rattle.std.proofs.lemmas.Bool.{false≢true}
use Rattle.std.proofs.lemmas.List.{map-append}
use Rattle.std.proofs.lemmas.Option.{slice_get-map, slice_get_within}
use Rattle.std.specs.BTreeMap.{get, get_by}
use Rattle.std.specs.Cmp.Lexicographic.{bytes_decides, pointwise}
use Rattle.std.specs.Option.{option_map_or}
use Rattle.std.specs.Ordering.{is_eq}
use Rattle.std.specs.Prelude.{bytes_eq, Contains, IfNone, IfSome, IsTrue, option_map, slice_get}
use Rattle.smt_bits.proofs.SameValue.{same_bits}
use Rattle.smt_bits.specs.BitVec.{number_of, width_of}
use Rattle.smt_bits.specs.contracts.bitvec.BitVecOrd.TheImpl as bits_order
use Rattle.smt_bits.specs.declared.bitvec.BitVec.{BitVec}
use Rattle.law_terms.specs.Nodes.{LiteralLabel, PlainLabel, PlainNode}
use Rattle.law_terms.specs.Plain.{BitVecLiteral}
use Rattle.law_terms.proofs.Growth.{contains_at, place_in}
use Rattle.law_terms.proofs.Places.{get_last, get_split, get_stays, some_same}
use Rattle.smt_term.specs.declared.term.TermPrim.TheVariants.{Bitvec}
use Rattle.smt_nodes.specs.Index.{bits_of, first_at, first_by, has_label, has_label_of, has_parts, id_at, node_at, node_of, FindsByKey, FindsByLabel, FindsSame, IsIndex}
use Rattle.smt_nodes.specs.LabelOrder.{label_cmp}
use Rattle.smt_nodes.specs.View.{ids_of, place_of, places_of, plain_label, plain_node}
use Rattle.smt_nodes.specs.contracts.id.NodeIdPartialEq.TheImpl as id_equality
use Rattle.smt_nodes.specs.contracts.node.LabelOrd.TheImpl as label_order
use Rattle.smt_nodes.specs.contracts.table.KeyOrd.TheImpl as key_order
use Rattle.smt_nodes.specs.declared.id.NodeId.{NodeId}
use Rattle.smt_nodes.specs.declared.node.Label.{Label}
use Rattle.smt_nodes.specs.declared.node.Label.TheVariants.{Prim}
use Rattle.smt_nodes.specs.declared.node.Node.{Node}
use Rattle.smt_nodes.specs.declared.table.Key.{Key}
use Rattle.smt_nodes.specs.declared.table.Table.{Table}
use Rattle.smt_nodes.proofs.Levels.{key_equal, key_same, label_cmp-is, label_equal, label_kept}

none_some : {X : Type 0} {x : X} {o : Option X} → o ≡ None → o ≡ Some x → ⊥
none_some {x = x} e h = let f : None ≡ Some x = sym e ∙ h in cc

not_true : (b : Bool) → (b ≡ true → ⊥) → b ≡ false
not_true true n = absurd (n refl)
not_true false n = refl

-- what a map finds after one entry more, by whether it is that entry
look : {X : Type 0} (b : Bool) (new x : X) (o : Option X) → cond b (Some new) o ≡ Some x → ((b ≡ true) × (new ≡ x)) ⊎ ((b ≡ false) × (o ≡ Some x))
look true new x o h = inl (refl, some_same new x h)
look false new x o h = inr (refl, h)

lack : {X : Type 0} (b : Bool) (new : X) (o : Option X) → cond b (Some new) o ≡ None → (b ≡ false) × (o ≡ None)
lack true new o h = absurd (cc)
lack false new o h = (refl, h)

-- ---- the bits of labels
abbrev said : BitVec → ℕ × ℕ
said b = (width_of b, number_of b)

abbrev bits_said : PlainLabel → Option (ℕ × ℕ)
bits_said (LiteralLabel (BitVecLiteral n a)) = Some (n, a)
bits_said l = None

bits_plain : (l : Label) → option_map said (bits_of l) ≡ bits_said (plain_label l)
bits_plain (Prim (Bitvec b)) = refl
bits_plain l = refl

one_bits : (o p : Option BitVec) → option_map said o ≡ option_map said p → o ≡ p
one_bits None None h = refl
one_bits None (Some b) h = absurd (cc)
one_bits (Some a) None h = absurd (cc)
one_bits (Some a) (Some b) h = let e : said a ≡ said b = some_same (said a) (said b) h in ap Some (same_bits a b (ap (λ p. p.0) e) (ap (λ p. p.1) e))

same_bits_of : (l m : Label) → plain_label l ≡ plain_label m → bits_of l ≡ bits_of m
same_bits_of l m h = one_bits (bits_of l) (bits_of m) (bits_plain l ∙ (ap bits_said h ∙ sym (bits_plain m)))

-- a literal of bits is not level with another label
bits_apart : (l m : Label) (a : BitVec) → bits_of l ≡ None → bits_of m ≡ Some a → is_eq (label_order.ghosts.cmp l m) ≡ false
bits_apart l m a h k = not_true (is_eq (label_order.ghosts.cmp l m)) (λ e. none_some h (same_bits_of l m (label_kept l m e) ∙ k))

same_cmp : (l m k : Label) → plain_label l ≡ plain_label m → label_order.ghosts.cmp l k ≡ label_order.ghosts.cmp m k
same_cmp l m k h = label_cmp-is l k ∙ (ap (λ p. label_cmp p (plain_label k)) h ∙ sym (label_cmp-is m k))

-- labels that say the same find the same
same_by : (t : Table) (l m : Label) (o : Option BitVec) → plain_label l ≡ plain_label m → first_by t.bits t.firsts l o ≡ first_by t.bits t.firsts m o
same_by t l m (Some b) h = refl
same_by t l m None h = λ i. get_by (λ (k : Label). same_cmp l m k h i) t.firsts

same_first : (t : Table) (l m : Label) → plain_label l ≡ plain_label m → first_at t l ≡ first_at t m
same_first t l m h = ap (first_by t.bits t.firsts l) (same_bits_of l m h) ∙ same_by t l m (bits_of m) h

-- ---- one number more in the map of labels
more_by_label : (t u : Table) (l own : Label) (id : NodeId) → bits_of l ≡ None → plain_label own ≡ plain_label l → u.bits ≡ t.bits
    → ((m : Label) → get label_order.ghosts.cmp u.firsts m ≡ cond (is_eq (label_order.ghosts.cmp own m)) (Some id) (get label_order.ghosts.cmp t.firsts m))
    → (m : Label) (o : Option BitVec) → bits_of m ≡ o → first_by u.bits u.firsts m o ≡ cond (is_eq (label_order.ghosts.cmp l m)) (Some id) (first_by t.bits t.firsts m o)
more_by_label t u l own id h s same up m (Some c) k =
    ap (get_by (bits_order.ghosts.cmp c)) same ∙ ap (λ e. cond e (Some id) (get bits_order.ghosts.cmp t.bits c)) (sym (bits_apart l m c h k))
more_by_label t u l own id h s same up m None k = up m ∙ ap (λ o. cond (is_eq o) (Some id) (get label_order.ghosts.cmp t.firsts m)) (same_cmp own l m s)

pub more_labels : (t u : Table) (l own : Label) (id : NodeId) → bits_of l ≡ None → plain_label own ≡ plain_label l → u.bits ≡ t.bits
    → ((m : Label) → get label_order.ghosts.cmp u.firsts m ≡ cond (is_eq (label_order.ghosts.cmp own m)) (Some id) (get label_order.ghosts.cmp t.firsts m))
    → (m : Label) → first_at u m ≡ cond (is_eq (label_order.ghosts.cmp l m)) (Some id) (first_at t m)
more_labels t u l own id h s same up m = more_by_label t u l own id h s same up m (bits_of m) refl

-- ---- what the table finds
abbrev passes : {X : Type 0} → (X → Bool) → Option X → Bool
passes f o = option_map_or f o false

passes_back : {X : Type 0} (f : X → Bool) (o : Option X) → passes f o ≡ true → (x : X) × (o ≡ Some x) × (f x ≡ true)
passes_back f None h = absurd (cc)
passes_back f (Some x) h = (x, refl, h)

pub first_within : (t : Table) → IsIndex t → (l : Label) (o : Option NodeId) → o ≡ first_at t l → IfSome o (λ id. place_of id < length t.nodes.items)
first_within t x l None e = tt
first_within t x l (Some id) e =
    let (n, h, k) = passes_back (λ (n : Node). is_eq (label_order.ghosts.cmp n.label l)) (slice_get t.nodes.items (place_of id)) (x.firsts l id (sym e)) in
    slice_get_within t.nodes.items (place_of id) n h

one_node : (o : Option Node) (l : Label) (parts : List NodeId) → passes (λ n. is_eq (label_order.ghosts.cmp n.label l)) o ≡ true → passes (λ n. bytes_eq (places_of (ids_of n.parts)) (places_of parts)) o ≡ true → option_map plain_node o ≡ Some (node_of l parts)
one_node None l parts a b = absurd (cc)
one_node (Some n) l parts a b =
    let label : plain_label n.label ≡ plain_label l = label_kept n.label l a in
    let places : places_of (ids_of n.parts) ≡ places_of parts = (bytes_decides (places_of (ids_of n.parts)) (places_of parts)).0 b in
    λ i. Some (record { label = label i; parts = places i })

stands : (t : Table) (id : NodeId) (l : Label) (parts : List NodeId) → has_label t id l ≡ true → has_parts t id parts ≡ true → node_at t id ≡ Some (node_of l parts)
stands t id l parts a b = slice_get-map plain_node t.nodes.items (place_of id) ∙ one_node (slice_get t.nodes.items (place_of id)) l parts a b

pub finds_first : (t : Table) → IsIndex t → (l : Label) (f : NodeId) (parts : List NodeId) → first_at t l ≡ Some f → has_parts t f parts ≡ true → node_at t f ≡ Some (node_of l parts)
finds_first t x l f parts h p = stands t f l parts (x.firsts l f h) p

-- the node that a key finds has the label that finds the node that the key names
finds_other : (t : Table) → IsIndex t → (l : Label) (k : Key) (id : NodeId) → first_at t l ≡ Some k.first → id_at t k ≡ Some id → node_at t id ≡ Some (node_of l (ids_of k.parts))
finds_other t x l k id f h =
    let both = x.others k id h in
    let (m, a, b) = passes_back (λ (n : Node). has_label t id n.label) (slice_get t.nodes.items (place_of k.first)) both.0 in
    let level : is_eq (label_order.ghosts.cmp m.label l) ≡ true = sym (ap (passes (λ (n : Node). is_eq (label_order.ghosts.cmp n.label l))) a) ∙ x.firsts l k.first f in
    stands t id m.label (ids_of k.parts) b both.1 ∙ ap (λ (p : PlainLabel). Some (record { label = p; parts = places_of (ids_of k.parts) })) (label_kept m.label l level)

pub finds_some : (t : Table) → IsIndex t → (l : Label) (k : Key) (parts : List NodeId) (o : Option NodeId) → first_at t l ≡ Some k.first → ids_of k.parts ≡ parts → o ≡ id_at t k → IfSome o (λ id. node_at t id ≡ Some (node_of l parts))
finds_some t x l k parts None f p e = tt
finds_some t x l k parts (Some id) f p e = finds_other t x l k id f (sym e) ∙ ap (λ ps. Some (node_of l ps)) p

pub finds_none : (t : Table) → IsIndex t → (l : Label) (k : Key) (parts : List NodeId) (o : Option NodeId) → first_at t l ≡ Some k.first → ids_of k.parts ≡ parts → has_parts t k.first parts ≡ false → o ≡ id_at t k → IfNone o (¬ Contains (map plain_node t.nodes.items) (node_of l parts))
finds_none t x l k parts (Some id) f p other e = tt
finds_none t x l k parts None f p other e = subst (λ ps. ¬ Contains (map plain_node t.nodes.items) (node_of l ps)) p (x.missing l k f (ap (has_parts t k.first) p ∙ other) (sym e))

-- ---- whether a node has these parts
same_places : (xs ys : List NodeId) → pointwise id_equality.ghosts.eq xs ys ≡ bytes_eq (places_of xs) (places_of ys)
same_places [] [] = refl
same_places [] (y ∷ ys) = refl
same_places (x ∷ xs) [] = refl
same_places (x ∷ xs) (y ∷ ys) = ap (λ b. nat_eq (place_of x) (place_of y) && b) (same_places xs ys)

pub has_these : (t : Table) (id : NodeId) (n : Node) (parts : List NodeId) → slice_get t.nodes.items (place_of id) ≡ Some n → pointwise id_equality.ghosts.eq (ids_of n.parts) parts ≡ has_parts t id parts
has_these t id n parts h = same_places (ids_of n.parts) parts ∙ sym (ap (passes (λ (n : Node). bytes_eq (places_of (ids_of n.parts)) (places_of parts))) h)

-- ---- the same nodes, found as before
pub unchanged : (t u : Table) → IsIndex t → u.nodes.items ≡ t.nodes.items → FindsSame t u → IsIndex u
unchanged t u x e same =
    record {
      firsts = λ l i h. ap (λ ns. passes (λ (n : Node). is_eq (label_order.ghosts.cmp n.label l)) (slice_get ns (place_of i))) e ∙ x.firsts l i (sym (same.0 l) ∙ h);
      others = λ k i h. (
          let both = x.others k i (sym (same.1 k) ∙ h) in (
            ap (λ ns. passes (λ (m : Node). passes (λ (n : Node). is_eq (label_order.ghosts.cmp n.label m.label)) (slice_get ns (place_of i))) (slice_get ns (place_of k.first))) e ∙ both.0,
            ap (λ ns. passes (λ (n : Node). bytes_eq (places_of (ids_of n.parts)) (places_of (ids_of k.parts))) (slice_get ns (place_of i))) e ∙ both.1,
          ));
      unlabelled = λ l parts h c. x.unlabelled l parts (sym (same.0 l) ∙ h) (subst (λ ns. Contains (map plain_node ns) (node_of l parts)) e c);
      missing = λ l k h p q c. x.missing l k (sym (same.0 l) ∙ h) (sym (ap (λ ns. passes (λ (n : Node). bytes_eq (places_of (ids_of n.parts)) (places_of (ids_of k.parts))) (slice_get ns (place_of k.first))) e) ∙ p) (sym (same.1 k) ∙ q) (subst (λ ns. Contains (map plain_node ns) (node_of l (ids_of k.parts))) e c);
    }

-- ---- one node more
in_more : (t u : Table) (node : Node) → u.nodes.items ≡ t.nodes.items ++ node ∷ [] → (n : PlainNode) → Contains (map plain_node u.nodes.items) n → (Contains (map plain_node t.nodes.items) n) ⊎ (plain_node node ≡ n)
in_more t u node e n c =
    let ns = map plain_node t.nodes.items in
    let (j, a) = place_in (ns ++ plain_node node ∷ []) n (subst (λ ms. Contains ms n) (ap (map plain_node) e ∙ map-append plain_node t.nodes.items (node ∷ [])) c) in
    elim (get_split ns (plain_node node) j n a) [ inl b ↦ inl (contains_at ns j n b) | inr b ↦ inr b.1 ]

-- what was true of a node still is
stays : (t u : Table) (node : Node) → u.nodes.items ≡ t.nodes.items ++ node ∷ [] → (f : Node → Bool) (i : ℕ) → passes f (slice_get t.nodes.items i) ≡ true → passes f (slice_get u.nodes.items i) ≡ true
stays t u node e f i h =
    let (n, a, b) = passes_back f (slice_get t.nodes.items i) h in
    ap (passes f) (ap (λ ns. slice_get ns i) e ∙ get_stays t.nodes.items (node ∷ []) i n a) ∙ b

last_is : (t u : Table) (node : Node) → u.nodes.items ≡ t.nodes.items ++ node ∷ [] → (id : NodeId) → place_of id ≡ length t.nodes.items → (f : Node → Bool) → passes f (slice_get u.nodes.items (place_of id)) ≡ f node
last_is t u node e id h f = ap (passes f) (ap (λ ns. slice_get ns (place_of id)) e ∙ (ap (slice_get (t.nodes.items ++ node ∷ [])) h ∙ get_last t.nodes.items node))

others_stay : (t u : Table) (node : Node) → u.nodes.items ≡ t.nodes.items ++ node ∷ [] → (k : Key) (id : NodeId) → IsTrue (has_label_of t id k.first) × IsTrue (has_parts t id (ids_of k.parts)) → IsTrue (has_label_of u id k.first) × IsTrue (has_parts u id (ids_of k.parts))
others_stay t u node e k id h =
    let (m, a, b) = passes_back (λ (n : Node). has_label t id n.label) (slice_get t.nodes.items (place_of k.first)) h.0 in
    let there : slice_get u.nodes.items (place_of k.first) ≡ Some m = ap (λ ns. slice_get ns (place_of k.first)) e ∙ get_stays t.nodes.items (node ∷ []) (place_of k.first) m a in (
      ap (passes (λ (n : Node). has_label u id n.label)) there ∙ stays t u node e (λ n. is_eq (label_order.ghosts.cmp n.label m.label)) (place_of id) b,
      stays t u node e (λ n. bytes_eq (places_of (ids_of n.parts)) (places_of (ids_of k.parts))) (place_of id) h.1,
    )

-- a node that has other parts had other parts
differed : (t u : Table) (node : Node) → u.nodes.items ≡ t.nodes.items ++ node ∷ [] → (id : NodeId) (parts : List NodeId) → has_parts u id parts ≡ false → has_parts t id parts ≡ false
differed t u node e id parts h = not_true (has_parts t id parts) (λ b. false≢true (sym h ∙ stays t u node e (λ n. bytes_eq (places_of (ids_of n.parts)) (places_of parts)) (place_of id) b))

last_has_parts : (t u : Table) (node : Node) → u.nodes.items ≡ t.nodes.items ++ node ∷ [] → (id : NodeId) → place_of id ≡ length t.nodes.items → (parts : List NodeId) → places_of (ids_of node.parts) ≡ places_of parts → has_parts u id parts ≡ true
last_has_parts t u node e id h parts p = last_is t u node e id h (λ n. bytes_eq (places_of (ids_of n.parts)) (places_of parts)) ∙ (bytes_decides (places_of (ids_of node.parts)) (places_of parts)).1 p

entered_first : (t u : Table) (node : Node) (id : NodeId) → IsIndex t → first_at t node.label ≡ None → u.nodes.items ≡ t.nodes.items ++ node ∷ [] → FindsByLabel t u node id → place_of id ≡ length t.nodes.items → IsIndex u
entered_first t u node id x new e more last =
    record {
      firsts = λ l i h. elim (look (is_eq (label_order.ghosts.cmp node.label l)) id i (first_at t l) (sym (more.0 l) ∙ h)) [
        | inl a ↦ ap (λ i. has_label u i l) (sym a.1) ∙ (last_is t u node e id last (λ n. is_eq (label_order.ghosts.cmp n.label l)) ∙ a.0)
        | inr a ↦ stays t u node e (λ n. is_eq (label_order.ghosts.cmp n.label l)) (place_of i) (x.firsts l i a.1)
      ];
      others = λ k i h. others_stay t u node e k i (x.others k i (sym (more.1 k) ∙ h));
      unlabelled = λ l parts h c. (
          let a = lack (is_eq (label_order.ghosts.cmp node.label l)) id (first_at t l) (sym (more.0 l) ∙ h) in
          elim (in_more t u node e (node_of l parts) c) [
            | inl b ↦ x.unlabelled l parts a.1 b
            | inr b ↦ false≢true (sym a.0 ∙ label_equal node.label l (ap (λ n. n.label) b))
          ]);
      missing = λ l k h p q c. elim (look (is_eq (label_order.ghosts.cmp node.label l)) id k.first (first_at t l) (sym (more.0 l) ∙ h)) [
        | inl a ↦ elim (in_more t u node e (node_of l (ids_of k.parts)) c) [
          | inl b ↦ x.unlabelled l (ids_of k.parts) (sym (same_first t node.label l (label_kept node.label l a.0)) ∙ new) b
          | inr b ↦ false≢true (sym p ∙ (ap (λ i. has_parts u i (ids_of k.parts)) (sym a.1) ∙ last_has_parts t u node e id last (ids_of k.parts) (ap (λ n. n.parts) b)))
        ]
        | inr a ↦ elim (in_more t u node e (node_of l (ids_of k.parts)) c) [
          | inl b ↦ x.missing l k a.1 (differed t u node e k.first (ids_of k.parts) p) (sym (more.1 k) ∙ q) b
          | inr b ↦ false≢true (sym a.0 ∙ label_equal node.label l (ap (λ n. n.label) b))
        ]
      ];
    }

entered_other : (t u : Table) (f : NodeId) (node : Node) (id : NodeId) → IsIndex t → first_at t node.label ≡ Some f → u.nodes.items ≡ t.nodes.items ++ node ∷ [] → FindsByKey t u f node id → place_of id ≡ length t.nodes.items → IsIndex u
entered_other t u f node id x first e more last =
    let own : Key = more.1 in
    let named : own.first ≡ f = more.2 in
    let held : ids_of own.parts ≡ ids_of node.parts = more.3 in
    record {
      firsts = λ l i h. stays t u node e (λ n. is_eq (label_order.ghosts.cmp n.label l)) (place_of i) (x.firsts l i (sym (more.0 l) ∙ h));
      others = λ k i h. elim (look (is_eq (key_order.ghosts.cmp own k)) id i (id_at t k) (sym (more.4 k) ∙ h)) [
        | inl a ↦ (
            let s = key_same own k a.0 in
            let there : place_of k.first ≡ place_of f = sym s.0 ∙ ap place_of named in
            let (m, b, d) = passes_back (λ (n : Node). is_eq (label_order.ghosts.cmp n.label node.label)) (slice_get t.nodes.items (place_of f)) (x.firsts node.label f first) in
            let stands : slice_get u.nodes.items (place_of k.first) ≡ Some m = ap (slice_get u.nodes.items) there ∙ (ap (λ ns. slice_get ns (place_of f)) e ∙ get_stays t.nodes.items (node ∷ []) (place_of f) m b) in
            let labels : has_label u id m.label ≡ true = last_is t u node e id last (λ n. is_eq (label_order.ghosts.cmp n.label m.label)) ∙ label_equal node.label m.label (sym (label_kept m.label node.label d)) in (
              ap (passes (λ (n : Node). has_label u i n.label)) stands ∙ (ap (λ i. has_label u i m.label) (sym a.1) ∙ labels),
              ap (λ i. has_parts u i (ids_of k.parts)) (sym a.1) ∙ last_has_parts t u node e id last (ids_of k.parts) (sym (ap places_of held) ∙ s.1),
            ))
        | inr a ↦ others_stay t u node e k i (x.others k i a.1)
      ];
      unlabelled = λ l parts h c. (
          let none : first_at t l ≡ None = sym (more.0 l) ∙ h in
          elim (in_more t u node e (node_of l parts) c) [
            | inl b ↦ x.unlabelled l parts none b
            | inr b ↦ none_some (same_first t node.label l (ap (λ n. n.label) b) ∙ none) first
          ]);
      missing = λ l k h p q c. (
          let a = lack (is_eq (key_order.ghosts.cmp own k)) id (id_at t k) (sym (more.4 k) ∙ q) in
          let found : first_at t l ≡ Some k.first = sym (more.0 l) ∙ h in
          elim (in_more t u node e (node_of l (ids_of k.parts)) c) [
            | inl b ↦ x.missing l k found (differed t u node e k.first (ids_of k.parts) p) a.1 b
            | inr b ↦ (
                let same : f ≡ k.first = some_same f k.first (sym first ∙ (same_first t node.label l (ap (λ n. n.label) b) ∙ found)) in
                false≢true (sym a.0 ∙ key_equal own k (ap place_of (named ∙ same)) (ap places_of held ∙ ap (λ n. n.parts) b)))
          ]);
    }

pub entered : (t u : Table) (first : Option NodeId) (node : Node) (id : NodeId) → IsIndex t → first ≡ first_at t node.label → u.nodes.items ≡ t.nodes.items ++ node ∷ []
    → (first ≡ None → FindsByLabel t u node id) → ((f : NodeId) → first ≡ Some f → FindsByKey t u f node id) → place_of id ≡ length t.nodes.items → IsIndex u
entered t u None node id x first e label key last = entered_first t u node id x (sym first) e (label refl) last
entered t u (Some f) node id x first e label key last = entered_other t u f node id x (sym first) e (key f refl) last
