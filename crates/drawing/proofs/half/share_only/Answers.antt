use Rattle.std.proofs.Common.{◌≡◌, ℕ, Bool, ◌⊎◌, true, rules, ⊎_elim}
use Rattle.std.proofs.lemmas.Iterator.{cases_from_all, YieldsList-from_slice, YieldsList-from_zip}
use Rattle.std.proofs.lemmas.Iterator.Consumers.{YieldsList-from_enumerate}
use borrow.Author.Tests.{tests}
use Rattle.drawing.proofs.Marking.{decides_from_all, each_pair, some_pair}
use Rattle.drawing.proofs.half.share_only.Goals as goal

pub returns : goal.returns
returns c =
    let a = c.args.a.now in
    let b = c.args.b.now in
    let x = c.args.x in
    let y = c.args.y in
    let Apart : ℕ → Bool → Bool → Type 0 = λ i m n. m ≡ true → n ≡ true → (i ≡ x) ⊎ (i ≡ y) in
    let Shared : ℕ → Bool → Bool → Type 0 = λ i m n. (m ≡ true) × (n ≡ true) × (i ≡ x → ⊥) × (i ≡ y → ⊥) in
    decides_from_all _
    (cases_from_all c.all.new.self _ _ (λ p. Apart p.0 p.1.0 p.1.1) (λ p. Shared p.0 p.1.0 p.1.1) c.all.ensures.ran (YieldsList-from_enumerate (YieldsList-from_zip (YieldsList-from_slice a (cc)) (YieldsList-from_slice b (cc))) (cc)) (λ p q k. search (rules, tests)) (λ p q k. search (rules, tests)))
    (λ w i lt m n. each_pair Apart a b w i lt n m n)
    (λ all w. let s = some_pair Shared a b w in ⊎_elim s.2.2 s.2.3 (all s.0 s.1 s.2.0 s.2.1))
