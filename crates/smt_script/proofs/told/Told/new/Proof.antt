-- `new` makes the empty struct, and picks the empty list. Assumes `Logic`.
use Rattle.std.proofs.Common.{List, [], ◌∷◌, refl}
use Rattle.std.proofs.raw_atomic.Walks.{proved}
use mir.Val.{Val, vstruct, vnil}
use types.Kit.{‵, raw, ◌⊛◌, ◌$◌, ◌∵◌, !, qed, move, keep, drop, split, fjoin, fpack, feq_i, suffices, done}
use types.Part.{agg}
use types.Run.{enter, returns, no_more}
use types.ByLocal.{alloc_all, pass_all, free_all, look_at, sets}
use denote.RattleType.{Valss, owns}
use denote.Signature.{types_at}
use denote.Steps.{nothing}
use denote.Struct.Struct.{within}
use denote.Triple.Entry.{alive}
use denote.Triple.Walked.{says, Stays, walk_of, ends_at}
use Rattle.smt_script.specs.contracts.told.Told as Told
use Rattle.smt_script.specs.contracts.told.Told.new as F
use Rattle.smt_script.proofs.told.Told.new.Statement.{statement}
use Rattle.smt_script.proofs.told.Told.new.Code as code

abbrev fieldless : Val
fieldless = vstruct vnil

abbrev stayed : Stays F.ended.signature.params F.ended.kept
stayed = tt

pub new_spec : {M : Type 1} → statement M
new_spec 𝓤 𝓛 𝓜 𝓡 wired =
    let c = F.clauses 𝓛 𝓜.mem 𝓡.returns in let W = walk_of 𝓛 F.ended stayed c in
    proved 𝓛 F.ended stayed c 𝓜 𝓡 tt F.Key.name code.function (code.unfolded 𝓤 𝓛.H 𝓜 𝓡 wired)
    (λ κs. tt) (λ κs. tt) (λ κs qs bounds a g are.
    let y : W.Ghost = ((κs, qs, bounds, a, tt), g) in
    let told : (Told.the_row).Denot = record { bytes = [] } in
    qed 𝓛 ((raw (alive 𝓛 F.ended.signature κs qs) ⊛ ‵ (owns (types_at F.ended.signature.params κs) a y.0.4)) ∷ raw ((c κs a).requires g) ∷ []) ∵
    keep ! (0 ∷ []) $ split ! $ move ! (1 ∷ []) $ drop ! $
    enter ! _ _ _ _ _ $ alloc_all ! (λ l. pass_all ! refl tt $
    sets ! (agg ! (no_more !)) refl (tt, tt) $
    -- [the struct's bytes, which are none; what it owns besides, which is nothing]
    nothing ! $ nothing ! $ feq_i ! (List Val) (fieldless ∷ []) (fieldless ∷ []) refl $ fjoin ! $
    fpack ! (Valss []) (within (record { name = []; args = []; types = []; fields = [] }) tt (fieldless ∷ [])) tt $ fjoin ! $
    returns ! (look_at ! 0 refl) $ free_all ! refl $
    suffices ! _ (ends_at 𝓛 F.ended stayed c y fieldless told tt tt) $ says ! refl $
    nothing ! $ move ! (2 ∷ 0 ∷ 1 ∷ []) $ done !))
