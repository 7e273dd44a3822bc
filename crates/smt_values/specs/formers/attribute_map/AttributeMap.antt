-- `AttributeMap` as a type that may hold the type that holds it.
use Rattle.std.specs.Prelude.{◌≡◌, List, map}
use mathlib.Core.Bool.{◌&&◌}
use mathlib.Core.Path.{refl}
use mathlib.Core.HLevel.{is_prop→PathP}
use mathlib.Core.Former.{Former, Count, Row, over, this, children}
use denote.RattleType.{RattleType}
use denote.HoleLaws.{Alike}
use denote.HolePlaces.{Recodes, struct_places, struct_Codes, laid}
use denote.Hole.Carrier.{listed}
use denote.Param.Weighed.{Weighed, w_const, w_pair}
use Rattle.std.specs.formers.vec.Vec as vec
use Rattle.std.specs.Prelude.{nat_eq}
use Rattle.std.specs.Cmp.Lexicographic.{pointwise}
use Rattle.std.specs.Cmp.Derive.Mapped.{pointwise-map}
use Rattle.std.specs.declared.cmp.PartialEq as eq
use Rattle.std.specs.declared.alloc.Global.{Global}
use Rattle.std.specs.declared.vec.Vec.{Vec}
use Rattle.std.specs.Rc.{rc_str_bytes}
use Rattle.smt_values.specs.declared.attribute_map.AttributeMap.{AttributeMap}
use Rattle.smt_term.specs.NamedVecs.{Name, Ascend, Ascend-prop, on_value, along, vecs, got_ascends, values_listed, vec_places, vec_codes}
use Rattle.smt_values.specs.contracts.attribute_map.AttributeMap as C

-- a map that holds these pairs, whose attributes ascend, in place of those of the map that is given
abbrev pub holding : {X Y : Type 0} (d : AttributeMap X) (ps : Vec (Name × Y) Global) → Ascend ps.items → AttributeMap Y
holding d ps a = record { items = ps; ascending = a }

-- the map with a function applied to each of its values
abbrev pub mapped : {X Y : Type 0} → (X → Y) → AttributeMap X → AttributeMap Y
mapped h d = holding d (vec.mapped (on_value h) d.items) (along h d.items.items d.ascending)

module _ (g : Former {0}) where
  -- the map that is got from a shape and the row of what its values hold, and the rest of the row
  abbrev pub got : (X : Type 0) (a : AttributeMap g.Shape) (n : Count) → Row X ((vecs g).count a.items n) → AttributeMap (g.Of X) × Row X n
  got X a n v =
      let r : Vec (Name × g.Of X) Global × Row X n = (vecs g).get X a.items n v in
      (holding a r.0 (got_ascends g X a.items.items n v a.ascending), r.1)

  -- what is put from a map into a row is got back from it
  pub got-put : (X : Type 0) (d : AttributeMap (g.Of X)) (n : Count) (t : Row X n) →
      got X (mapped (g.shape X) d) n ((vecs g).put X d.items n t) ≡ (d, t)
  got-put X d n t = λ i. (
    holding d ((vecs g).get-put X d.items n t i).0
        (is_prop→PathP (λ j. Ascend ((vecs g).get-put X d.items n t j).0.items)
        (λ j. Ascend-prop ((vecs g).get-put X d.items n t j).0.items)
        (got X (mapped (g.shape X) d) n ((vecs g).put X d.items n t)).0.ascending d.ascending i),
    ((vecs g).get-put X d.items n t i).1,
  )

  -- what is got from a row is put back into the same row, in the same shape
  pub put-got : (X : Type 0) (a : AttributeMap g.Shape) (n : Count) (v : Row X ((vecs g).count a.items n))
      → ◌≡◌ {A = (b : AttributeMap g.Shape) × Row X ((vecs g).count b.items n)}
      (mapped (g.shape X) (got X a n v).0, (vecs g).put X (got X a n v).0.items n (got X a n v).1) (a, v)
  put-got X a n v = λ i. (
    holding a ((vecs g).put-get X a.items n v i).0
        (is_prop→PathP (λ j. Ascend ((vecs g).put-get X a.items n v j).0.items)
        (λ j. Ascend-prop ((vecs g).put-get X a.items n v j).0.items) (mapped (g.shape X) (got X a n v).0).ascending a.ascending i),
    ((vecs g).put-get X a.items n v i).1,
  )

  -- to apply a function to a row and get a map is to get the map and apply the function to its values
  pub got-map : (X Y : Type 0) (h : X → Y) (a : AttributeMap g.Shape) (n : Count) (v : Row X ((vecs g).count a.items n))
      → got Y a n (over h ((vecs g).count a.items n) v) ≡ (mapped (g.map X Y h) (got X a n v).0, over h n (got X a n v).1)
  got-map X Y h a n v = λ i. (
    holding a ((vecs g).get-map X Y h a.items n v i).0
        (is_prop→PathP (λ j. Ascend ((vecs g).get-map X Y h a.items n v j).0.items)
        (λ j. Ascend-prop ((vecs g).get-map X Y h a.items n v j).0.items) (got Y a n (over h ((vecs g).count a.items n) v)).0.ascending
        (mapped (g.map X Y h) (got X a n v).0).ascending i),
    ((vecs g).get-map X Y h a.items n v i).1,
  )

  -- `AttributeMap` of values that g forms, as a type that may hold the type that holds it
  abbrev pub the_former : Former {0}
  the_former = record {
    Of = λ X. AttributeMap (g.Of X);
    Shape = AttributeMap g.Shape;
    count = λ a. (vecs g).count a.items;
    shape = λ X. mapped (g.shape X);
    put = λ X d. (vecs g).put X d.items;
    get = got;
    map = λ X Y h. mapped (g.map X Y h);
    get-put = got-put;
    put-get = put-got;
    get-map = got-map;
  }

-- what a map weighs by what its values weigh, so that a recursion may go into the values
abbrev pub the_weighed : {g : Former {0}} → Weighed g → Weighed (the_former g)
the_weighed w = record {
  weight = λ X μ d. (vec.the_weighed (w_pair (w_const Name) w) Global).weight X μ d.items;
  puts = λ X μ d. (vec.the_weighed (w_pair (w_const Name) w) Global).puts X μ d.items;
}

-- the values of a map, in order
abbrev pub the_items : (X : Type 0) → AttributeMap X → List X
the_items X d = map (λ p. p.1) d.items.items

-- the children of a map, listed, are its values in order
pub the_items_listed : (X : Type 0) (d : AttributeMap X) → listed _ (children (the_former this) X d) ≡ the_items X d
the_items_listed X d = values_listed X d.items.items

module _ (R R' : RattleType) (h : R.Denot → R'.Denot) where
  -- where h keeps the places of one row of a type in another, h applied to each value keeps those of maps
  pub the_places : Alike R R' h → Alike (C.the_row R) (C.the_row R') ((the_former this).map R.Denot R'.Denot h)
  the_places a =
      struct_places (C.the_type R) (C.the_type R') (vec.mapped (on_value h), tt) _ (λ d. refl) refl (laid _ _ _ (vec_places R R' h a), tt)

  -- where h keeps the codes of one row of a type in another, h applied to each value keeps those of maps
  pub the_codes_placed : Recodes R R' h → Recodes (C.the_row R) (C.the_row R') ((the_former this).map R.Denot R'.Denot h)
  the_codes_placed e =
      struct_Codes (C.the_type R) (C.the_type R') (vec.mapped (on_value h), tt) (mapped h) (λ d. refl) (vec_codes R R' h e, tt)

module _ (X Y : Type 0) (h : X → Y) where
  -- two maps with h applied to each value are equal, pair by pair, exactly as the maps are where their values are compared
  -- after h
  pub the_eq_natural : (V : eq.Ghosts Y) (a b : AttributeMap X)
      → pointwise (λ p q. pointwise nat_eq (rc_str_bytes p.0) (rc_str_bytes q.0) && V.eq p.1 q.1) (mapped h a).items.items
      (mapped h b).items.items
      ≡ pointwise (λ p q. pointwise nat_eq (rc_str_bytes p.0) (rc_str_bytes q.0) && V.eq (h p.1) (h q.1)) a.items.items b.items.items
  the_eq_natural V a b =
      pointwise-map (on_value h) (λ p q. pointwise nat_eq (rc_str_bytes p.0) (rc_str_bytes q.0) && V.eq p.1 q.1) a.items.items b.items.items
