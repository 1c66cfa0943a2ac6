use Rattle.std.proofs.Common.{◌≡◌, ◌∙◌, ℕ, ◌+◌, ◌∷◌, List, length, map, sym, ap, subst, rules}
use Rattle.site_message.specs.Story.{hand}
use Rattle.site_message.specs.Journal.{end_by, end_of, is_quiet}
use Rattle.std.specs.Prelude.{Contains, Some, nat_lt, nat_le, not, ◌&&◌}
use Rattle.site_message.specs.declared.turn.Turn.{Turn}
use lib.ListN.{length-map}
use Rattle.message_book.specs.Book.{BookState, IsSiteOf}
use Rattle.message_book.specs.Inboxes.{IsConsistent, AllHoldTravelling, IsAfterTurn, letter_of, inbox_at}
use Rattle.message_book.proofs.Posts.{state_of, hand_at}
use Rattle.message_book.proofs.Turns.{on_err, kept_same, shown_same, inboxes_after, kept_after, hand_here, hand_there, reason_after}
use Rattle.message_book.proofs.book.Book.post.Goals as goal

pub returns-in_err-prepare-clause-refused : goal.returns-in_err-prepare-clause-refused
returns-in_err-prepare-clause-refused c = on_err c.from_residual.result _ (shown_same _ _ c.self.inside.inboxes.items c.prepare.new.inboxes.items _ c.args.self.now c.prepare.ensures.length c.prepare.ensures.same c.self.view_is)

pub returns-in_err-prepare-clause-other_hands : goal.returns-in_err-prepare-clause-other_hands
returns-in_err-prepare-clause-other_hands c i other = ap (λ (v : BookState). hand i v.hands) (shown_same _ _ c.self.inside.inboxes.items c.prepare.new.inboxes.items _ c.args.self.now c.prepare.ensures.length c.prepare.ensures.same c.self.view_is)

pub returns-then-is_err-clause-refused : goal.returns-then-is_err-clause-refused
returns-then-is_err-clause-refused c =
    let e : c.push.new.self ≡ c.self.inside.journal = search rules in
    rw e (shown_same _ _ c.self.inside.inboxes.items _ _ c.args.self.now c.prepare.ensures.length c.prepare.ensures.same c.self.view_is)

pub returns-then-is_err-clause-other_hands : goal.returns-then-is_err-clause-other_hands
returns-then-is_err-clause-other_hands c i other = ap (λ (v : BookState). hand i v.hands) (shown_same _ _ c.self.inside.inboxes.items c.prepare.new.inboxes.items _ c.args.self.now c.prepare.ensures.length c.prepare.ensures.same c.self.view_is)

kept_of : (c : goal.After-self-2-1) → IsConsistent c.self.inside.limits c.self.inside.journal c.self.inside.sent c.prepare.new.inboxes.items c.self.inside.reason
kept_of c = kept_same c.self.inside.limits _ _ c.self.inside.inboxes.items c.prepare.new.inboxes.items _ c.prepare.ensures.length c.prepare.ensures.same c.self.invariant

shown_of : (c : goal.After-self-2-1) → state_of c.self.inside.limits c.self.inside.journal c.prepare.new.inboxes.items c.self.inside.reason ≡ c.args.self.now
shown_of c = shown_same c.self.inside.limits _ c.self.inside.inboxes.items c.prepare.new.inboxes.items _ c.args.self.now c.prepare.ensures.length c.prepare.ensures.same c.self.view_is

site_of : (c : goal.After-self-2-1) → IsSiteOf c.self.inside.limits.sites c.args.turn.site
site_of c = subst (λ (v : BookState). IsSiteOf v.limits.sites c.args.turn.site) (sym c.self.view_is) c.requires.site

given_of : (c : goal.After-self-2-1) (k : ℕ) → c.args.turn.delivered ≡ Some k → Contains (inbox_at c.prepare.new.inboxes.items c.args.turn.site).hand k
given_of c k is = subst (λ (h : List ℕ). Contains h k) (sym (ap (λ (v : BookState). hand c.args.turn.site v.hands) (shown_of c)) ∙ hand_at c.prepare.new.inboxes.items c.args.turn.site) (c.requires.delivered k is)

-- the turn, and its letters
turn_of : (c : goal.After-self-2-1) → c.into_parts-turn.result.0 ≡ c.args.turn
turn_of c = c.into_parts-turn.ensures.turn

letters_of : (c : goal.After-self-2-1) → c.into_parts-turn.result.1.items ≡ map letter_of c.args.turn.sent
letters_of c = c.into_parts-turn.ensures.letters

settled_of : (c : goal.After-self-2-1) → IsAfterTurn c.self.inside.limits.sites c.args.turn.site c.args.turn.delivered c.args.turn.idle c.self.inside.sent (map letter_of c.args.turn.sent) c.prepare.new.inboxes.items c.apply_turn.new.inboxes.items
settled_of c = subst (λ (e : Turn). IsAfterTurn c.self.inside.limits.sites e.site e.delivered e.idle c.self.inside.sent (map letter_of c.args.turn.sent) c.prepare.new.inboxes.items c.apply_turn.new.inboxes.items) (turn_of c)
    (subst (λ (ls : List (ℕ × List ℕ)). IsAfterTurn c.self.inside.limits.sites c.into_parts-turn.result.0.site c.into_parts-turn.result.0.delivered c.into_parts-turn.result.0.idle c.self.inside.sent ls c.prepare.new.inboxes.items c.apply_turn.new.inboxes.items) (letters_of c) c.apply_turn.ensures.after)

count_of : (c : goal.After-self-2-1) → c.self.inside.sent + c.len-count.result ≡ c.self.inside.sent + length c.args.turn.sent
count_of c =
    let len : length c.into_parts-turn.result.1.items ≡ length c.args.turn.sent = ap length (letters_of c) ∙ length-map c.args.turn.sent letter_of in
    let found : c.len-count.result ≡ length c.into_parts-turn.result.1.items = search rules in
    ap (λ n. c.self.inside.sent + n) (found ∙ len)

-- the turn came to the limit of own steps
limit_of : (c : goal.After-self-2-1) → c.is_at_limit.result ≡ (nat_le c.self.inside.limits.steps c.args.turn.steps && not c.args.turn.idle)
limit_of c = subst (λ (e : Turn). c.is_at_limit.result ≡ (nat_le c.self.inside.limits.steps e.steps && not e.idle)) (turn_of c) c.is_at_limit.ensures

pushed : (c : goal.After-self-2-1) → c.push.new.self ≡ c.args.turn ∷ c.self.inside.journal
pushed c = search rules

ended : (c : goal.After-self-2-1) → c.find_reason-self-inside.result ≡ end_of c.self.inside.limits (c.args.turn ∷ c.self.inside.journal)
ended c =
    let l = c.self.inside.limits in
    let bs = c.prepare.new.inboxes.items in
    let cs = c.apply_turn.new.inboxes.items in
    let k = kept_of c in
    let inboxes = inboxes_after l _ _ bs _ k c.args.turn (site_of c) (given_of c) cs (settled_of c) in
    let slice : c.as_slice-2.result.now ≡ cs = c.as_slice-2.ensures.value in
    let places : length c.as_slice-2.result.now ≡ l.sites + 1 = ap length slice ∙ ((settled_of c).places ∙ k.places) in
    let told = c.find_reason-self-inside.ensures l.sites (c.args.turn ∷ c.self.inside.journal) places (subst (AllHoldTravelling l.sites (c.args.turn ∷ c.self.inside.journal)) (sym slice) inboxes) in
    let here : c.find_reason-self-inside.result ≡ end_by (nat_lt c.self.inside.limits.messages (c.self.inside.sent + c.len-count.result)) c.is_at_limit.result c.args.turn.site (is_quiet l.sites (c.args.turn ∷ c.self.inside.journal)) =
    subst (λ (e : Turn). c.find_reason-self-inside.result ≡ end_by (nat_lt c.self.inside.limits.messages (c.self.inside.sent + c.len-count.result)) c.is_at_limit.result e.site (is_quiet l.sites (c.args.turn ∷ c.self.inside.journal))) (turn_of c) told in
    reason_after l _ _ bs _ k c.args.turn (site_of c) (given_of c) cs (settled_of c) _ _ (count_of c)
    (here ∙ ap (λ b. end_by (nat_lt c.self.inside.limits.messages (c.self.inside.sent + c.len-count.result)) b c.args.turn.site (is_quiet l.sites (c.args.turn ∷ c.self.inside.journal))) (limit_of c))

pub invariant_of-self-2 : goal.invariant_of-self-2
invariant_of-self-2 c =
    let l = c.self.inside.limits in
    let k = kept_of c in
    let after = kept_after l _ _ c.prepare.new.inboxes.items _ k c.args.turn (site_of c) (given_of c) c.apply_turn.new.inboxes.items (settled_of c) _ (count_of c) c.into_parts-turn.ensures.spelled c.in_default.not-Some in
    rw (pushed c, ended c) after

pub returns-clause-reason : goal.returns-clause-reason
returns-clause-reason c = rw (pushed c) (ended c)

pub returns-clause-hand : goal.returns-clause-hand
returns-clause-hand c =
    hand_here c.self.inside.limits _ _ c.prepare.new.inboxes.items _ (kept_of c) c.args.turn (site_of c) (given_of c) c.apply_turn.new.inboxes.items (settled_of c) c.args.self.now (ap (λ (v : BookState). hand c.args.turn.site v.hands) (shown_of c))

pub returns-clause-other_hands : goal.returns-clause-other_hands
returns-clause-other_hands c i other =
    hand_there c.self.inside.limits _ _ c.prepare.new.inboxes.items _ (kept_of c) c.args.turn (site_of c) (given_of c) c.apply_turn.new.inboxes.items (settled_of c) c.args.self.now i other (ap (λ (v : BookState). hand i v.hands) (shown_of c))
