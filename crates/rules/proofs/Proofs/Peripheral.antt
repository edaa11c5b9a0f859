-- Channel 0's law: the one file that unfolds its decisions.
pub mod Apart
pub mod Effects
pub mod SoundMeans
pub mod Makes
pub mod WholeFirstApplies
pub mod WholeRefusals
pub mod Fits
pub mod Lawful
pub mod Shape
pub mod Sound
pub mod Rows
pub mod Status
pub mod Steps
use Rattle.std.specs.Prelude.{ℕ, Bool, true, false, ◌&&◌, not, List, [], ◌∷◌, ◌≡◌, refl, eqb, length, Option, Some, None}
use Rattle.std.proofs.Common.{ap, ◌∙◌, eqb-true}
use Rattle.std.proofs.lemmas.Bool.{not-false, not-true}
use Rattle.base.specs.Pick.{pick_ind}
use Rattle.registers.specs.Registers.{payload_size}
use Rattle.registers.specs.declared.Config.{Config}
use Rattle.peripheral.specs.Upward.{upward}
use Rattle.peripheral.specs.Status.{pc_free, np_free}
use Rattle.peripheral.specs.declared.Request.{Request}
use Rattle.peripheral.specs.declared.Np.{Np}
use Rattle.peripheral.specs.declared.Np.TheVariants.{Free, Waiting, Ready, Failed}
use Rattle.peripheral.specs.declared.Peripheral.{Peripheral}
use Rattle.peripheral.specs.declared.Completion.{Completion}
use Rattle.peripheral.specs.declared.Posted.{Posted}
use Rattle.peripheral.specs.Sound.{within}
use Rattle.rules.specs.Rules.Plan.{PeripheralChange}
use Rattle.rules.specs.Rules.Out.{number}
use Rattle.rules.specs.Rules.Peripheral as P
use Rattle.rules.specs.Rules.Peripheral.{Act, posts, asks, gets, Board, look, answer, take_write, size_for, succeeded, bytes_for}
use Rattle.rules.specs.Statements.Peripheral.{Did, write_held, write_large, posted, request_held, request_large, asked, none_ready, handed_over, unanswered, Settled, look_done, no_look, no_such, miscounted, succeeds, fails, no_take, took}

post_did : (c : Config) (p : Peripheral) (A L from : ℕ) → Did c p (posts A L from) (P.post c p A L from)
unfolding P.post
post_did c p A L from =
    let Q : PeripheralChange → Type 0 = Did c p (posts A L from) in
    pick_ind Q (not (pc_free p.write)) (λ e. write_held (not-true _ e))
    (λ e. pick_ind Q (not (within A L (payload_size c.r010))) (λ f. write_large (not-false _ e) (not-true _ f))
    (λ f. posted (not-false _ e) (not-false _ f)))

ask_did : (c : Config) (p : Peripheral) (q : Request) → Did c p (asks q) (P.ask p q)
unfolding P.ask
ask_did c p q =
    let Q : PeripheralChange → Type 0 = Did c p (asks q) in
    pick_ind Q (not (np_free p.request)) (λ e. request_held (not-true _ e))
    (λ e. pick_ind Q (not (within q.address q.length (size_for q.kind q))) (λ f. request_large (not-false _ e) (not-true _ f))
    (λ f. asked (not-false _ e) (not-false _ f)))

hand_did : (c : Config) (p : Peripheral) (ks : List Completion) → upward p.request ≡ ks → Did c p gets (P.handing p ks)
hand_did c p [] e = none_ready e
hand_did c p (k ∷ ks) e = handed_over e

get_did : (c : Config) (p : Peripheral) → Did c p gets (P.get_pc p)
unfolding P.get_pc
get_did c p = hand_did c p (upward p.request) refl

pub did : (c : Config) (p : Peripheral) (a : Act) → Did c p a (P.acting c p a)
did c p (posts A L from) = post_did c p A L from
did c p (asks q) = ask_did c p q
did c p gets = get_did c p

-- ---- the board's calls

look_settled : (p : Peripheral) (report : List ℕ) (n : Np) → p.request ≡ n → Settled p (look report) (P.change p (number (P.look_number n)))
look_settled p report Free e = no_look (ap unanswered e)
look_settled p report (Waiting q) e = look_done e
look_settled p report (Ready q sent) e = no_look (ap unanswered e)
look_settled p report (Failed q) e = no_look (ap unanswered e)

module _ (p : Peripheral) (serial success : ℕ) (d : List ℕ) where
  abbrev Told : PeripheralChange → Type 0
  Told = Settled p (answer serial success d)

  answered-settled : (q : Request) (t : Bool) → succeeded success ≡ t → p.request ≡ Waiting q → serial ≡ p.serial → length d ≡ bytes_for q t
      → Told (P.answered p q t)
  answered-settled q true e h n l = succeeds h n e l
  answered-settled q false e h n l = fails h n e l

  none : (n : Np) → p.request ≡ n → unanswered n ≡ false → Told (P.change p (number 20))
  none n e f = no_such (ap (λ (t : Bool). t && eqb serial p.serial) (ap unanswered e ∙ f))

  answer-settled : (n : Np) → p.request ≡ n → Told (P.answering p serial (succeeded success) (length d) n)
  answer-settled Free h = none Free h refl
  answer-settled (Waiting q) h =
      pick_ind Told (not (eqb serial p.serial)) (λ e. no_such (ap (λ (t : Bool). t && eqb serial p.serial) (ap unanswered h) ∙ not-true _ e))
      (λ e. pick_ind Told (not (eqb (length d) (bytes_for q (succeeded success)))) (λ f. miscounted h (eqb-true _ _ (not-false _ e)) (not-true _ f))
      (λ f. answered-settled q (succeeded success) refl h (eqb-true _ _ (not-false _ e)) (eqb-true _ _ (not-false _ f))))
  answer-settled (Ready q sent) h = none (Ready q sent) h refl
  answer-settled (Failed q) h = none (Failed q) h refl

take-settled : (p : Peripheral) (report : List ℕ) (x : Option Posted) → p.write ≡ x → Settled p (take_write report) (P.taking p x)
take-settled p report None e = no_take e
take-settled p report (Some x) e = took e

pub settles : (c : Config) (p : Peripheral) (o : Board) → Settled p o (P.settle c p o)
unfolding P.settle P.answer_to P.taken
settles c p (look report) = look_settled p report p.request refl
settles c p (answer serial success d) = answer-settled p serial success d p.request refl
settles c p (take_write report) = take-settled p report p.write refl

-- a look is its number and changes nothing
pub look_is : (c : Config) (p : Peripheral) (report : List ℕ) → P.settle c p (look report) ≡ P.change p (number (P.look_number p.request))
unfolding P.settle
look_is c p report = refl

pub answer-is : (c : Config) (p : Peripheral) (serial success : ℕ) (d : List ℕ)
    → P.settle c p (answer serial success d) ≡ P.answer_to p serial (succeeded success) (length d)
unfolding P.settle
answer-is c p serial success d = refl
