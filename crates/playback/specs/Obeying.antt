-- Laws by which `obey` meets its contract: each kind's body is long enough for its call, and what the call leaves is what the entry leaves.
use Rattle.std.specs.Prelude.{ℕ, ◌≤◌, true, List, ◌≡◌, get_or, drop}
use Rattle.std.proofs.Math.Path.{refl, subst}
use Rattle.std.proofs.Common.{sym, ap, ◌∙◌, arith, leb-true, eqb-true}
use Rattle.base.specs.Bytes.{number4}
use Rattle.rules.specs.Rules.Calls.{Done, done, Stored, stored, Exchanged, exchanged, exchange_call, answer_call, set_wire_call, platform_reset_call, espi_reset_call}
use Rattle.promises.specs.ByteRuns.{byte_step_value}
use Rattle.housefile.specs.Kinds.{body_fits}
use Rattle.housefile.specs.declared.Kind.{Kind}
use Rattle.housefile.specs.declared.Kind.TheVariants.{Command, Success, Failure, SetWire, PlatformReset, EspiReset, TakeWrite}
use Rattle.playback.specs.Play.{obeyed, obey, taking}

-- ---- a body is long enough

module _ (k : Kind) (n : ℕ) (fits : body_fits k n ≡ true) where
  pub success_body : k ≡ Success → 4 ≤ n
  success_body e = leb-true 4 n (subst (λ (k : Kind). body_fits k n ≡ true) e fits)

  pub failure_body : k ≡ Failure → 4 ≤ n
  failure_body e = let h : n ≡ 4 = eqb-true n 4 (subst (λ (k : Kind). body_fits k n ≡ true) e fits) in omega arith

  pub wire_body : k ≡ SetWire → 3 ≤ n
  wire_body e = let h : n ≡ 3 = eqb-true n 3 (subst (λ (k : Kind). body_fits k n ≡ true) e fits) in omega arith

-- ---- what is left, kind by kind

module _ (k : Kind) (body st reply write read : List ℕ) (r : ℕ) (st' : List ℕ) where
  -- by the kind that the code's match told
  abbrev Leaves : Kind → (reply' write' read' : List ℕ) → Type 0
  Leaves k reply' write' read' = obeyed r st' reply' write' read' ≡ obey k body st reply write read

  pub by_command : (reply' write' : List ℕ) → k ≡ Command → exchanged r st' reply' write' ≡ exchange_call st body reply write read → Leaves k reply' write' read
  unfolding obey byte_step_value
  by_command reply' write' e h =
      subst (λ (k : Kind). Leaves k reply' write' read) (sym e)
      (ap (λ (x : Exchanged). obeyed x.word x.state x.reply x.write read) h)

  pub by_success : (read' : List ℕ) → k ≡ Success → stored r st' read' ≡ answer_call st read (number4 0 body) 1 (drop 4 body) → Leaves k reply write read'
  unfolding obey byte_step_value
  by_success read' e h =
      subst (λ (k : Kind). Leaves k reply write read') (sym e) (ap (λ (x : Stored). obeyed x.word x.state reply write x.store) h)

  pub by_failure : (read' : List ℕ) → k ≡ Failure → stored r st' read' ≡ answer_call st read (number4 0 body) 0 (drop 4 body) → Leaves k reply write read'
  unfolding obey byte_step_value
  by_failure read' e h =
      subst (λ (k : Kind). Leaves k reply write read') (sym e) (ap (λ (x : Stored). obeyed x.word x.state reply write x.store) h)

  -- a call that changes the state alone
  alone : (j : Kind) (d : Done) → k ≡ j → obeyed d.word d.state reply write read ≡ obey j body st reply write read → done r st' ≡ d
      → Leaves k reply write read
  alone j d e g h = subst (λ (k : Kind). Leaves k reply write read) (sym e) (ap (λ (x : Done). obeyed x.word x.state reply write read) h ∙ g)

  pub by_wire : k ≡ SetWire → done r st' ≡ set_wire_call st (get_or body 0 0) (get_or body 1 0) (get_or body 2 0) → Leaves k reply write read
  unfolding obey byte_step_value
  by_wire e h = alone SetWire _ e refl h

  pub by_platform_reset : k ≡ PlatformReset → done r st' ≡ platform_reset_call st → Leaves k reply write read
  unfolding obey byte_step_value
  by_platform_reset e h = alone PlatformReset _ e refl h

  pub by_espi_reset : k ≡ EspiReset → done r st' ≡ espi_reset_call st → Leaves k reply write read
  unfolding obey byte_step_value
  by_espi_reset e h = alone EspiReset _ e refl h

  pub by_take : k ≡ TakeWrite → done r st' ≡ taking st write → Leaves k reply write read
  unfolding obey byte_step_value taking
  by_take e h = alone TakeWrite _ e refl h
