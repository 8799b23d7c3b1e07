-- A tuple of three is made of its parts. Assumes `Logic`.
use Rattle.raw_block.proofs.Steps.{List, [], ◌∷◌, refl, Ura, ent, sep, Val, vstruct, vcons, vnil, Logic, sem, ‵, ◌$◌, ◌∵◌, !, qed, move, fjoin, fpack, feq_i, done, nothing, RattleType}
use denote.RattleType.{Valss}
use denote.Struct.Struct.{within}
use denote.Struct.Declared as Declared
use denote.Struct.Tuple.{Tuple, tuple_type}

abbrev pub triple_of : Val → Val → Val → Val
triple_of u v w = vstruct (vcons u (vcons v (vcons w vnil)))

pub three_made : {M : Type 1} {𝓤 : Ura M} (𝓛 : Logic 𝓤) (R S T : RattleType) (x : R.Denot) (y : S.Denot) (z : T.Denot) (u v w : Val)
    → ent 𝓤 (sep 𝓤 (sem 𝓛 (R.own_val x (u ∷ []))) (sep 𝓤 (sem 𝓛 (S.own_val y (v ∷ []))) (sem 𝓛 (T.own_val z (w ∷ []))))) (sem 𝓛 ((Tuple (R ∷ S ∷ T ∷ [])).own_val (x, y, z) (triple_of u v w ∷ [])))
three_made 𝓛 R S T x y z u v w =
    let all = triple_of u v w in
    qed 𝓛 (‵ (R.own_val x (u ∷ [])) ∷ ‵ (S.own_val y (v ∷ [])) ∷ ‵ (T.own_val z (w ∷ [])) ∷ []) ∵
    nothing ! $ move ! (3 ∷ []) $ fjoin ! $ move ! (2 ∷ []) $ fjoin ! $ move ! (1 ∷ []) $ fjoin ! $ feq_i ! (List Val) (all ∷ []) (all ∷ []) refl $ fjoin ! $
    fpack ! (Valss (R ∷ S ∷ T ∷ [])) (within (Declared.shape (tuple_type (R ∷ S ∷ T ∷ []))) (x, (y, (z, tt))) (all ∷ [])) (u ∷ [], (v ∷ [], (w ∷ [], tt))) $ done !
