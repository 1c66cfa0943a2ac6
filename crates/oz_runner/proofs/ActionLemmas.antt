-- The words say one action, and one choice of options.
use Rattle.std.proofs.Common.{◌≡◌, ◌∙◌, ℕ, List, [], Option, Some, None, unwrap_or, false, true≢false, ap, refl, sym, codes}
use Rattle.std.specs.Str.{bytes_eq}
use Rattle.std.proofs.lemmas.Slice.Eq.{bytes_eq-Decides}
use Rattle.clap.specs.Words.{one_of}
use Rattle.oz_words.specs.Command.{sites_option, workers_option, steps_option, messages_option}
use Rattle.oz_words.specs.Matches.{words_rows}
use Rattle.oz_words.specs.Words.{IsActionText, IsNumberText, MayBeNumberText}
use Rattle.oz_words.specs.declared.options.Action.{Action}
use Rattle.oz_words.specs.declared.options.Action.TheVariants as action
use Rattle.oz_words.specs.declared.options.Options.{Options}
use Rattle.oz_runner.specs.Cause.{HasOptions}
use Rattle.oz_runner.specs.OzCall.{OzCall}

other : (a b : List ℕ) (o : Option (List ℕ)) → bytes_eq a b ≡ false → o ≡ Some a → o ≡ Some b → ⊥
other a b o differ is also =
    let same : a ≡ b = ap (λ (t : Option (List ℕ)). unwrap_or t []) (sym is ∙ also) in
    true≢false (sym ((bytes_eq-Decides a b).1 same) ∙ differ)

one_number : (o : Option (List ℕ)) (n m : ℕ) → IsNumberText o n → IsNumberText o m → n ≡ m
one_number None n m one two = absurd one
one_number (Some text) n m one two = one ∙ sym two

one_seed : (o : Option (List ℕ)) (a b : Option ℕ) → MayBeNumberText o a → MayBeNumberText o b → a ≡ b
one_seed None a b one two = one ∙ sym two
one_seed (Some text) None b one two = absurd one
one_seed (Some text) (Some n) None one two = absurd two
one_seed (Some text) (Some n) (Some m) one two = ap (λ (k : ℕ). Some k) (one ∙ sym two)

one_action : (named number : Option (List ℕ)) (a b : Action) → IsActionText named number a → IsActionText named number b → a ≡ b
one_action named number action.Run action.Run one two = refl
one_action named number action.Run action.Central one two = absurd (other _ _ named refl one two)
one_action named number action.Run (action.Gen m) one two = absurd (other _ _ named refl one two.0)
one_action named number action.Run action.Save one two = absurd (other _ _ named refl one two)
one_action named number action.Run action.Check one two = absurd (other _ _ named refl one two)
one_action named number action.Central action.Run one two = absurd (other _ _ named refl one two)
one_action named number action.Central action.Central one two = refl
one_action named number action.Central (action.Gen m) one two = absurd (other _ _ named refl one two.0)
one_action named number action.Central action.Save one two = absurd (other _ _ named refl one two)
one_action named number action.Central action.Check one two = absurd (other _ _ named refl one two)
one_action named number (action.Gen n) action.Run one two = absurd (other _ _ named refl one.0 two)
one_action named number (action.Gen n) action.Central one two = absurd (other _ _ named refl one.0 two)
one_action named number (action.Gen n) (action.Gen m) one two = ap action.Gen (one_number number n m one.1 two.1)
one_action named number (action.Gen n) action.Save one two = absurd (other _ _ named refl one.0 two)
one_action named number (action.Gen n) action.Check one two = absurd (other _ _ named refl one.0 two)
one_action named number action.Save action.Run one two = absurd (other _ _ named refl one two)
one_action named number action.Save action.Central one two = absurd (other _ _ named refl one two)
one_action named number action.Save (action.Gen m) one two = absurd (other _ _ named refl one two.0)
one_action named number action.Save action.Save one two = refl
one_action named number action.Save action.Check one two = absurd (other _ _ named refl one two)
one_action named number action.Check action.Run one two = absurd (other _ _ named refl one two)
one_action named number action.Check action.Central one two = absurd (other _ _ named refl one two)
one_action named number action.Check (action.Gen m) one two = absurd (other _ _ named refl one two.0)
one_action named number action.Check action.Save one two = absurd (other _ _ named refl one two)
one_action named number action.Check action.Check one two = refl

-- the words say one choice of options
pub options_same : (seen : OzCall) (a b : Options) → HasOptions seen a → HasOptions seen b → a ≡ b
options_same seen a b h g =
    let rows = words_rows seen.words in
    let sites = one_number (one_of sites_option.name rows) a.sites b.sites h.1.sites g.1.sites in
    let workers = one_number (one_of workers_option.name rows) a.workers b.workers h.1.workers g.1.workers in
    let steps = one_number (one_of steps_option.name rows) a.steps b.steps h.1.steps g.1.steps in
    let messages = one_number (one_of messages_option.name rows) a.messages b.messages h.1.messages g.1.messages in
    let seed = one_seed (one_of (codes "seed") rows) a.seed b.seed h.1.seed g.1.seed in
    let action = one_action (one_of (codes "action") rows) (one_of (codes "number") rows) a.action b.action h.1.action g.1.action in
    λ i. record { sites = sites i; workers = workers i; steps = steps i; messages = messages i; seed = seed i; action = action i }
