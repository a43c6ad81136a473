-- Sessions, a call at a time.
use Rattle.std.proofs.Common.{◌≡◌, ℕ, suc, ◌+◌, ◌<◌, List, [], ◌∷◌, ◌++◌, map, length, get_or, take, set, ℤ, sym, refl, ap, ◌∙◌, ap₂}
use lib.ListN.{length-map}
use Rattle.std.proofs.lemmas.List.{take_more, map-append}
use Rattle.reversible.specs.Machine.{Outcome, done, refused}
use Rattle.reversible.specs.Ledger.{Call as Asked, Entry, Answer, Screen as Model, plays, open_screen, screen_after, screen_backed, screen_back, screen_call}
use Rattle.rules.specs.Script.{Script}
use Rattle.rules.specs.Ledger.{screen_rules}
use Rattle.rules.specs.declared.Refusal.{Refusal}
use Rattle.laws.proofs.Stands.{whole}
use Rattle.screen.specs.Model.{three}
use Rattle.screen.specs.declared.words.Call.{Call}
use Rattle.screen.specs.declared.words.Reply.{Reply}
use Rattle.screen.specs.declared.words.Reply.TheVariants.{Numbers}
use Rattle.screen.specs.Sessions.{call_of, reply_of, written, Played}

-- ---- replies

abbrev numbered : ℕ × ℕ × ℕ → Reply
numbered r = Numbers r.0 r.1 r.2

backed_reply : (m : Model (List ℤ) Script) (o : Outcome (List ℤ) Refusal) → numbered (three (screen_backed screen_rules m o).0) ≡ reply_of (screen_backed screen_rules m o).0
backed_reply m (done n b) = refl
backed_reply m (refused r l n b) = refl

pub back_reply : (m : Model (List ℤ) Script) (st : List Entry) → numbered (three (screen_back screen_rules m st).0) ≡ reply_of (screen_back screen_rules m st).0
back_reply m [] = refl
back_reply m (x ∷ st) = backed_reply m _

-- ---- one call more

module _ {X Y Z : Type 0} (f : X → Y → Z × X) where
  plays_state : (x : X) (cs : List Y) (c : Y) → (plays f x (cs ++ (c ∷ []))).1 ≡ (f (plays f x cs).1 c).1
  plays_state x [] c = refl
  plays_state x (d ∷ cs) c = plays_state (f x d).1 cs c

  plays_answers : (x : X) (cs : List Y) (c : Y) → (plays f x (cs ++ (c ∷ []))).0 ≡ (plays f x cs).0 ++ ((f (plays f x cs).1 c).0 ∷ [])
  plays_answers x [] c = refl
  plays_answers x (d ∷ cs) c = ap {B = List Z} (λ zs. (f x d).0 ∷ zs) (plays_answers (f x d).1 cs c)

  plays_length : (x : X) (cs : List Y) → length (plays f x cs).0 ≡ length cs
  plays_length x [] = refl
  plays_length x (c ∷ cs) = ap suc (plays_length (f x c).1 cs)

pub written_none : (os : List Reply) → written os [] ≡ os
written_none [] = refl
written_none (o ∷ os) = refl

written_more : (os rs : List Reply) (r : Reply) → written os (rs ++ (r ∷ [])) ≡ set (written os rs) (length rs) r
written_more [] rs r = refl
written_more (o ∷ os) [] r = ap {B = List Reply} (λ ys. r ∷ ys) (written_none os)
written_more (o ∷ os) (x ∷ rs) r = ap {B = List Reply} (λ ys. x ∷ ys) (written_more os rs r)

abbrev pub asked : List Call → ℕ → List (Asked Script)
asked calls k = map call_of (take k calls)

asked_more : (calls : List Call) (k : ℕ) (d : Call) → k < length calls → asked calls (k + 1) ≡ asked calls k ++ (call_of (get_or calls k d) ∷ [])
asked_more calls k d h = ap (map call_of) (take_more calls k d h) ∙ map-append call_of (take k calls) (get_or calls k d ∷ [])

abbrev pub answered : List ℤ → List (Asked Script) → List Reply
answered a cs = map reply_of (plays (screen_call screen_rules) (open_screen screen_rules a) cs).0

module _ (a : List ℤ) (calls : List Call) (k : ℕ) (d : Call) (h : k < length calls) (m : Model (List ℤ) Script) (there : m ≡ screen_after screen_rules a (asked calls k)) where
  abbrev called : Answer ℤ Refusal × Model (List ℤ) Script
  called = screen_call screen_rules m (call_of (get_or calls k d))

  pub screen_more : called.1 ≡ screen_after screen_rules a (asked calls (k + 1))
  screen_more =
      ap (λ s. (screen_call screen_rules s (call_of (get_or calls k d))).1) there
      ∙ sym (plays_state (screen_call screen_rules) (open_screen screen_rules a) (asked calls k) (call_of (get_or calls k d)))
      ∙ ap (screen_after screen_rules a) (sym (asked_more calls k d h))

  pub replies_more : (os : List Reply) (r : Reply) → r ≡ reply_of called.0 → length (asked calls k) ≡ k → set (written os (answered a (asked calls k))) k r ≡ written os (answered a (asked calls (k + 1)))
  replies_more os r e size =
      let f = screen_call screen_rules in
      let x = open_screen screen_rules a in
      let cs = asked calls k in
      let c = call_of (get_or calls k d) in
      let same : answered a (asked calls (k + 1)) ≡ answered a cs ++ (reply_of called.0 ∷ []) =
      ap (answered a) (asked_more calls k d h) ∙ ap (map reply_of) (plays_answers f x cs c) ∙ map-append reply_of (plays f x cs).0 ((f (plays f x cs).1 c).0 ∷ [])
      ∙ ap (λ s. answered a cs ++ (reply_of (screen_call screen_rules s c).0 ∷ [])) (sym there) in
      let n : length (answered a cs) ≡ k = length-map (plays f x cs).0 reply_of ∙ plays_length f x cs ∙ size in
      sym (ap (written os) same ∙ written_more os (answered a cs) (reply_of called.0) ∙ ap₂ (set (written os (answered a cs))) n (sym e))

-- a session that went through all calls
pub played : (a : List ℤ) (calls : List Call) (k : ℕ) (before after : List Reply) (m : Model (List ℤ) Script) → asked calls k ≡ map call_of calls
    → m ≡ screen_after screen_rules a (asked calls k) → after ≡ written before (answered a (asked calls k)) → Played a (map call_of calls) before after m
played a calls k before after m all there said =
    let cs = map call_of calls in
    let tied = whole.keeps a cs in
    let s : m ≡ screen_after screen_rules a cs = there ∙ ap (screen_after screen_rules a) all in
    record {
      replies = said ∙ ap (λ cs. written before (answered a cs)) all ∙ ap (λ xs. written before (map reply_of xs)) tied.answers;
      script = ap (λ s. s.script) s ∙ tied.script;
      standing = ap (λ s. s.standing) s ∙ tied.standing;
      book = ap (λ s. s.book) s ∙ tied.book;
      screen = s;
    }
