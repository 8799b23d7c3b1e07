-- The instances of a typed module are safe.
use Rattle.std.proofs.Common.{◌≡◌, List, [], ◌∷◌, sym, subst}
use Rattle.module_code.specs.Program.{Program, IsModule}
use Rattle.model_laws.specs.OpenRuns.{Standing, Move, Start, Execute, Answer, Others, Elsewhere, Begin, Main, End, ToldOfMove, Done, IsMove, IsOpenRun, IsHarmless, AreHarmless, StandsSound}
use Rattle.model_laws.specs.OpenRuns.{InstancesAreSafe}
use Rattle.model_laws.proofs.alone.Kept.{move_kept, opened_kept}
use Rattle.life_check.specs.Certificates.{Certificate, AllBounded}
use Rattle.life_check.specs.Typed.{IsTyped}
use Rattle.life_check.proofs.alone.Beside.{goes_on_stand, elsewhere_stand, answers_stand}
use Rattle.life_check.proofs.alone.Executes.{executes_stand}
use Rattle.life_check.proofs.alone.Means.{StandsAlone}
use Rattle.life_check.proofs.alone.Starts.{opened_stands, starts_stand, calls_stand, begins_stand, ends_stand}

done : (told : ToldOfMove) → told ≡ Done → IsHarmless told
done told is = subst IsHarmless (sym is) tt

module _ (p : Program) (m : Certificate) (proper : IsModule p) (bounded : AllBounded m) (typed : IsTyped p m) where
  move_stands : (s new : Standing) (move : Move) (told : ToldOfMove) → StandsAlone p m s → StandsSound p s → StandsSound p new → IsMove p s move told new → IsHarmless told × StandsAlone p m new
  unfolding IsMove
  move_stands s new Start told h was k t = (done told t.0, starts_stand p m proper bounded typed s new h t.1 k)
  move_stands s new (Execute given) told h was k t = executes_stand p m proper bounded typed given s new told h t was k
  move_stands s new (Answer u items) told h was k t = (done told t.0, answers_stand p m proper bounded u items s new h t.1 k)
  move_stands s new Others told h was k t = (done told t.0, goes_on_stand p m proper bounded s new h t.1 was)
  move_stands s new Elsewhere told h was k t = (done told t.0, elsewhere_stand p m proper bounded s new h t.1)
  move_stands s new Begin told h was k t = (done told t.0, begins_stand p m proper bounded typed s new h t.1 was)
  move_stands s new (Main items) told h was k t = (done told t.0, calls_stand p m proper bounded typed items s new h t.1 was k)
  move_stands s new End told h was k t = (done told t.0, ends_stand p m proper bounded typed s new h t.1 was k)

  run_harmless : (s new : Standing) (moves : List Move) (told : List ToldOfMove) → StandsAlone p m s → StandsSound p s → IsOpenRun p s moves told new → AreHarmless told
  unfolding IsOpenRun AreHarmless
  run_harmless s new [] [] h k run = tt
  run_harmless s new [] (t ∷ told) h k run = absurd run
  run_harmless s new (move ∷ moves) [] h k run = tt
  run_harmless s new (move ∷ moves) (t ∷ told) h k (mid, is, rest) =
      let sound : StandsSound p mid = move_kept p s mid k proper move t is in
      let now = move_stands s mid move t h k sound is in
      (now.0, run_harmless mid new moves told now.1 sound rest)

  pub typed_is_safe : InstancesAreSafe p
  typed_is_safe r moves told new opened run = run_harmless _ new moves told (opened_stands p m proper bounded typed r opened) (opened_kept p r opened) run
