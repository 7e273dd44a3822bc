-- `AttributePairs` as a type that may hold the type that holds it.
use Rattle.std.specs.Prelude.{◌≡◌, List, map}
use mathlib.Core.Bool.{◌&&◌}
use mathlib.Core.Path.{refl}
use mathlib.Core.HLevel.{is_prop→PathP}
use mathlib.Core.Former.{Former, Count, Row, over, this, children}
use base.Stored.{gnil}
use base.Fml.{ftrue}
use denote.RattleType.{RattleType}
use denote.Memory.{part_of}
use denote.Sharing.{nothing}
use denote.HoleLaws.{Alike}
use denote.HolePlaces.{Recodes, struct_places, struct_Codes, laid, one_value}
use denote.Hole.Carrier.{listed}
use denote.Param.Weighed.{Weighed, w_const, w_pair}
use Rattle.std.specs.formers.vec.Vec as vec
use Rattle.std.specs.Prelude.{Some, nat_eq}
use Rattle.std.specs.Cmp.Lexicographic.{pointwise, slice_cmp, slice_partial_cmp}
use Rattle.std.specs.Cmp.Derive.Mapped.{lex_map, pointwise-map, slice_partial_cmp-map}
use Rattle.std.specs.Ordering.{ordering_then, partial_ordering_then}
use Rattle.std.specs.declared.cmp.Ord as ord
use Rattle.std.specs.declared.cmp.PartialEq as eq
use Rattle.std.specs.declared.cmp.PartialOrd as partial
use Rattle.std.specs.contracts.alloc.Global as heap
use Rattle.std.specs.contracts.impls.GlobalAllocator.TheImpl.{ghosts}
use Rattle.std.specs.contracts.rc.Rc as rc
use Rattle.std.specs.declared.alloc.Global.{Global}
use Rattle.std.specs.declared.rc.Rc.{Rc}
use Rattle.std.specs.declared.vec.Vec.{Vec}
use Rattle.std.specs.Rc.{rc_str_bytes}
use Rattle.law_terms.specs.ValueOrder.{text_cmp}
use Rattle.smt_term.specs.declared.pairs.AttributePairs.{AttributePairs}
use Rattle.smt_term.specs.NamedVecs.{Name, Ascend, Ascend-prop, on_value, along, vecs, got_ascends, values_listed, vec_row, vec_places}
use Rattle.smt_term.specs.NamedVecs.{vec_codes}
use Rattle.smt_term.specs.contracts.pairs.AttributePairs as C

-- attribute pairs at the same place in memory, with these pairs in place of their own
abbrev pub holding : {X Y : Type 0} (d : AttributePairs X) (ps : Vec (Name × Y) Global) → Ascend ps.items → AttributePairs Y
holding d ps a = record { items = record { ptr = d.items.ptr; value = ps }; ascending = a }

-- attribute pairs with a function applied to each value
abbrev pub mapped : {X Y : Type 0} → (X → Y) → AttributePairs X → AttributePairs Y
mapped h d = holding d (vec.mapped (on_value h) d.items.value) (along h d.items.value.items d.ascending)

module _ (g : Former {0}) where
  -- attribute pairs of this shape with the items of a row in them, and what is left of the row
  abbrev pub got : (X : Type 0) (a : AttributePairs g.Shape) (n : Count) → Row X ((vecs g).count a.items.value n) →
      AttributePairs (g.Of X) × Row X n
  got X a n v =
      let r : Vec (Name × g.Of X) Global × Row X n = (vecs g).get X a.items.value n v in
      (holding a r.0 (got_ascends g X a.items.value.items n v a.ascending), r.1)

  -- attribute pairs whose items are laid before a row and taken from there are the same
  pub got-put : (X : Type 0) (d : AttributePairs (g.Of X)) (n : Count) (t : Row X n) →
      got X (mapped (g.shape X) d) n ((vecs g).put X d.items.value n t) ≡ (d, t)
  got-put X d n t = λ i. (
    holding d ((vecs g).get-put X d.items.value n t i).0
        (is_prop→PathP (λ j. Ascend ((vecs g).get-put X d.items.value n t j).0.items)
        (λ j. Ascend-prop ((vecs g).get-put X d.items.value n t j).0.items)
        (got X (mapped (g.shape X) d) n ((vecs g).put X d.items.value n t)).0.ascending d.ascending i),
    ((vecs g).get-put X d.items.value n t i).1,
  )

  -- a shape and a row from which attribute pairs are made are had back from these
  pub put-got : (X : Type 0) (a : AttributePairs g.Shape) (n : Count) (v : Row X ((vecs g).count a.items.value n))
      → ◌≡◌ {A = (b : AttributePairs g.Shape) × Row X ((vecs g).count b.items.value n)}
      (mapped (g.shape X) (got X a n v).0, (vecs g).put X (got X a n v).0.items.value n (got X a n v).1) (a, v)
  put-got X a n v = λ i. (
    holding a ((vecs g).put-get X a.items.value n v i).0
        (is_prop→PathP (λ j. Ascend ((vecs g).put-get X a.items.value n v j).0.items)
        (λ j. Ascend-prop ((vecs g).put-get X a.items.value n v j).0.items) (mapped (g.shape X) (got X a n v).0).ascending a.ascending
        i),
    ((vecs g).put-get X a.items.value n v i).1,
  )

  -- a function that is applied to the items of a row is applied to the values that are made of them
  pub got-map : (X Y : Type 0) (h : X → Y) (a : AttributePairs g.Shape) (n : Count) (v : Row X ((vecs g).count a.items.value n))
      → got Y a n (over h ((vecs g).count a.items.value n) v) ≡ (mapped (g.map X Y h) (got X a n v).0, over h n (got X a n v).1)
  got-map X Y h a n v = λ i. (
    holding a ((vecs g).get-map X Y h a.items.value n v i).0
        (is_prop→PathP (λ j. Ascend ((vecs g).get-map X Y h a.items.value n v j).0.items)
        (λ j. Ascend-prop ((vecs g).get-map X Y h a.items.value n v j).0.items)
        (got Y a n (over h ((vecs g).count a.items.value n) v)).0.ascending (mapped (g.map X Y h) (got X a n v).0).ascending i),
    ((vecs g).get-map X Y h a.items.value n v i).1,
  )

  -- `AttributePairs` as a former: a shape, which has the attributes, and a row with the items of the values
  abbrev pub the_former : Former {0}
  the_former = record {
    Of = λ X. AttributePairs (g.Of X);
    Shape = AttributePairs g.Shape;
    count = λ a. (vecs g).count a.items.value;
    shape = λ X. mapped (g.shape X);
    put = λ X d. (vecs g).put X d.items.value;
    get = got;
    map = λ X Y h. mapped (g.map X Y h);
    get-put = got-put;
    put-get = put-got;
    get-map = got-map;
  }

-- attribute pairs weigh what their vector of pairs weighs
abbrev pub the_weighed : {g : Former {0}} → Weighed g → Weighed (the_former g)
the_weighed w = record {
  weight = λ X μ d. (vec.the_weighed (w_pair (w_const Name) w) Global).weight X μ d.items.value;
  puts = λ X μ d. (vec.the_weighed (w_pair (w_const Name) w) Global).puts X μ d.items.value;
}

-- the values of the pairs, in order
abbrev pub the_items : (X : Type 0) → AttributePairs X → List X
the_items X d = map (λ p. p.1) d.items.value.items

-- the items that the former lists are the values of the pairs, in order
pub the_items_listed : (X : Type 0) (d : AttributePairs X) → listed _ (children (the_former this) X d) ≡ the_items X d
the_items_listed X d = values_listed X d.items.value.items

abbrev rc_row : RattleType → RattleType
rc_row R = rc.the_row (vec_row R) heap.the_row ghosts

module _ (R R' : RattleType) (h : R.Denot → R'.Denot) where
  abbrev rc_mapped : Rc (Vec (Name × R.Denot) Global) Global → Rc (Vec (Name × R'.Denot) Global) Global
  rc_mapped d = record { ptr = d.ptr; value = vec.mapped (on_value h) d.value }

  rc_places : Alike R R' h → Alike (rc_row R) (rc_row R') rc_mapped
  unfolding part_of
  rc_places a = record {
    mir_same =
        λ i.
        (rc.the_row (one_value (vec_row R) ((vec_places R R' h a).mir_same i) (λ _. ftrue) (λ _ _. nothing) gnil) heap.the_row ghosts).mir;
    own_same =
        λ d i.
        (rc.the_row
        (one_value (vec_row R) ((vec_places R R' h a).mir_same i) ((vec_places R R' h a).own_same d.value i)
        ((vec_places R R' h a).shr_same d.value i) gnil)
        heap.the_row ghosts).own_val
        (record { ptr = d.ptr; value = tt });
    shr_same =
        λ d i.
        (rc.the_row
        (one_value (vec_row R) ((vec_places R R' h a).mir_same i) ((vec_places R R' h a).own_same d.value i)
        ((vec_places R R' h a).shr_same d.value i) gnil)
        heap.the_row ghosts).shr_at
        (record { ptr = d.ptr; value = tt });
  }

  -- Where the values of one type lie in memory, own and lend as those of another, attribute pairs of these do too.
  pub the_places : Alike R R' h → Alike (C.the_row R) (C.the_row R') ((the_former this).map R.Denot R'.Denot h)
  the_places a = struct_places (C.the_type R) (C.the_type R') (rc_mapped, tt) _ (λ d. refl) refl (laid _ _ _ (rc_places a), tt)

  rc_codes : Recodes R R' h → Recodes (rc_row R) (rc_row R') rc_mapped
  unfolding part_of
  rc_codes e d i =
      (rc.the_row (one_value (vec_row R) (vec_row R).mir (λ _. ftrue) (λ _ _. nothing) (vec_codes R R' h e d.value i)) heap.the_row
      ghosts).coded.code
      (record { ptr = d.ptr; value = tt })

  -- Where the values of one type have the codes of those of another, attribute pairs of these do too.
  pub the_codes_placed : Recodes R R' h → Recodes (C.the_row R) (C.the_row R') ((the_former this).map R.Denot R'.Denot h)
  the_codes_placed e = struct_Codes (C.the_type R) (C.the_type R') (rc_mapped, tt) (mapped h) (λ d. refl) (rc_codes e, tt)

module _ (X Y : Type 0) (h : X → Y) where
  -- Pairs are equal where a function is applied to their values exactly where they are equal by the values that it gives.
  pub the_eq_natural : (V : eq.Ghosts Y) (a b : AttributePairs X)
      → pointwise (λ p q. pointwise nat_eq (rc_str_bytes p.0) (rc_str_bytes q.0) && V.eq p.1 q.1) (mapped h a).items.value.items
      (mapped h b).items.value.items
      ≡ pointwise (λ p q. pointwise nat_eq (rc_str_bytes p.0) (rc_str_bytes q.0) && V.eq (h p.1) (h q.1)) a.items.value.items
      b.items.value.items
  the_eq_natural V a b =
      pointwise-map (on_value h) (λ p q. pointwise nat_eq (rc_str_bytes p.0) (rc_str_bytes q.0) && V.eq p.1 q.1) a.items.value.items
      b.items.value.items

  -- Pairs compare where a function is applied to their values as they compare by the values that it gives, in a partial order.
  pub the_partial_cmp_natural : (V : partial.Ghosts Y) (V' : eq.Ghosts Y) (a b : AttributePairs X)
      → slice_partial_cmp (λ p q. partial_ordering_then (Some (text_cmp (rc_str_bytes p.0) (rc_str_bytes q.0))) (V.partial_cmp p.1 q.1))
      (mapped h a).items.value.items (mapped h b).items.value.items
      ≡ slice_partial_cmp
      (λ p q. partial_ordering_then (Some (text_cmp (rc_str_bytes p.0) (rc_str_bytes q.0))) (V.partial_cmp (h p.1) (h q.1)))
      a.items.value.items b.items.value.items
  the_partial_cmp_natural V V' a b =
      slice_partial_cmp-map (on_value h)
      (λ p q. partial_ordering_then (Some (text_cmp (rc_str_bytes p.0) (rc_str_bytes q.0))) (V.partial_cmp p.1 q.1)) a.items.value.items
      b.items.value.items

  -- Pairs compare where a function is applied to their values as they compare by the values that it gives.
  pub the_cmp_natural : (V : ord.Ghosts Y) (V' : eq.Ghosts Y) (V'' : partial.Ghosts Y) (a b : AttributePairs X)
      → slice_cmp (λ p q. ordering_then (text_cmp (rc_str_bytes p.0) (rc_str_bytes q.0)) (V.cmp p.1 q.1)) (mapped h a).items.value.items
      (mapped h b).items.value.items
      ≡ slice_cmp (λ p q. ordering_then (text_cmp (rc_str_bytes p.0) (rc_str_bytes q.0)) (V.cmp (h p.1) (h q.1))) a.items.value.items
      b.items.value.items
  the_cmp_natural V V' V'' a b =
      lex_map (on_value h) (λ p q. ordering_then (text_cmp (rc_str_bytes p.0) (rc_str_bytes q.0)) (V.cmp p.1 q.1)) a.items.value.items
      b.items.value.items
