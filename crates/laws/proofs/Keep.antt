-- Every step of an allowed script keeps what its states keep.
use Rattle.std.proofs.Common.{◌≡◌, ℕ, suc, ◌+◌, ◌-◌, ◌<◌, ◌≤◌, Bool, true, false, cond, not, eqb, ltb, ◌⊎◌, List, [], ◌∷◌, ◌++◌, length, get_or, take, set, ℤ, pos, negsuc, ◌+ℤ◌, ◌-ℤ◌, Ok, Err, sym, refl, ap, ◌∙◌, subst, inl, inr, ⊎_elim, arith, length-set}
use lib.Bits.{bit_xor}
use Rattle.std.specs.List.{AllByRecursion}
use Rattle.std.proofs.ByRecursion.{All-take}
use Rattle.std.proofs.lemmas.List.{length_push, length-take-le, get_or_past}
use Rattle.std.proofs.lemmas.Bool.{and_parts, ltb-true, cases_lt}
use Rattle.rules.specs.Word.{word, holds, on_bits}
use Rattle.rules.specs.Book.{records, record_at, named}
use Rattle.rules.specs.Script.{Script, line_at, is_none, bracket, partner, where_is}
use Rattle.rules.specs.Check.{depth, checked}
use Rattle.rules.specs.Step.{State, base, past, met, turn_of, kind_met, across, entry, read, put_book, put_locals, callee, rules, rule, step, changed, branched, asserted, opened, closed, allocated, freed, copied, uncopied, swapped, entered, returned}
use Rattle.rules.specs.declared.Frame.{Frame}
use Rattle.rules.specs.declared.Spot.{Spot}
use Rattle.rules.specs.declared.Line.{Line}
use Rattle.rules.specs.declared.Place.{Place}
use Rattle.laws.proofs.Chains.{passed, held, chose, ok_same, ok_err}
use Rattle.laws.proofs.Back.{At}
use Rattle.laws.proofs.Cells.{named_is}
use Rattle.laws.proofs.Turning.{Each, each_at}
use Rattle.laws.proofs.StepBack.{same_kind}
use Rattle.laws.proofs.Nest.{bracket_turned}
use Rattle.laws.proofs.Stack.{stack_at}
use Rattle.laws.proofs.Inside.{In, at_end, begun, stack_next, across_pair, partner_in, plain_stack}
use Rattle.laws.proofs.Methods.{block, found, method_of, calls_method, begin_is, end_is, entered_in}
use Rattle.laws.proofs.Values.{IsWord, all_at, all_set, all_join, word_is, xor_word, zero_word}
use Rattle.laws.proofs.Fit.{cur, way, Chain, Fit, keep, book_words, read_word, value_word, put_book_length, put_locals_length, put_book_words, put_locals_words, kind_of_lem, pass, pass_depth, opens_depth, closes_depth, past_high, turn_at, turn_in}
use Rattle.rules.specs.declared.Refusal.TheVariants.{Unknown}
use Rattle.reversible.specs.Ledger.{accepted}

-- met as a line that opens or closes, it is one
pub bracket_met : (fw : Bool) (kind k : ℕ) → met fw kind ≡ k → bracket k ≡ true → bracket kind ≡ true
bracket_met true kind k h b = ap bracket h ∙ b
bracket_met false kind k h b = sym (bracket_turned kind) ∙ ap bracket h ∙ b

-- a return is met at the end of the method that the state is in
pub at_return : (sc : Script) (ok : checked sc ≡ accepted) (l m : ℕ) → l < length sc.lines → (fw : Bool) → met fw (line_at sc.lines l).kind ≡ 1 → In m (stack_at sc.lines (past (not fw) l))
    → (depth (stack_at sc.lines (past (not fw) l)) ≡ 0) × (entry sc (not fw) m ≡ past (not fw) l)
at_return sc ok l m inside true h i =
    let (name, none) = at_end m (stack_at sc.lines l) (line_at sc.lines l) (found sc ok l inside).nested i h in
    (none, ap (λ x. where_is 1 x sc.lines) (sym name) ∙ end_is sc ok l inside h)
at_return sc ok l m inside false h i =
    let k : (line_at sc.lines l).kind ≡ 0 = kind_of_lem false (line_at sc.lines l).kind 1 h in
    let next = stack_next sc.lines l inside in
    let (name, none) = begun m (stack_at sc.lines l) (line_at sc.lines l) (found sc ok l inside).nested k (subst (In m) next i) in
    (ap depth next ∙ none, ap suc (ap (λ x. where_is 0 x sc.lines) (sym name) ∙ begin_is sc ok l inside k))

across_back : (k : ℕ) (b : Bool) → across k (across k b) ≡ b
across_back k b = by (eqb k 17) b
  where
    by : (e b : Bool) → cond e (not (cond e (not b) b)) (cond e (not b) b) ≡ b
    by true true = refl
    by true false = refl
    by false b = refl

named_low : (b : List ℤ) (z : ℤ) → named b z ≤ records b
named_low b (pos k) = grind arith
named_low b (negsuc k) = omega arith

module _ (s : State) (y : Place) (k : ℕ) (e : callee s y ≡ Ok k) where
  callee_same : is_none y ≡ true → k ≡ s.present
  callee_same h = chose (is_none y) _ _ e (λ _ f. sym (ok_same f)) (λ n _. let z : ◌≡◌ {A = Bool} true false = sym h ∙ n in let w : ◌≡◌ {A = ℕ} 0 1 = cc in absurd (omega arith))

  callee_real : is_none y ≡ false → (0 < k) × (k ≤ records s.book)
  callee_real h =
      chose (is_none y) _ _ e
      (λ n _. let z : ◌≡◌ {A = Bool} true false = sym n ∙ h in let w : ◌≡◌ {A = ℕ} 0 1 = cc in absurd (omega arith))
      (λ _ f.
      passed _ _ f λ u at rest.
      held _ _ _ rest λ more last.
      let n = named s.book (read s u) in
      let same : n ≡ k = ok_same last in
      let a = ltb-true 0 n more in
      let b = named_low s.book (read s u) in
      (omega arith, omega arith))

module _ (sc : Script) (ok : checked sc ≡ accepted) (q : ℕ) (d : Bool) where
  abbrev Keeps : ℕ → Type 0
  Keeps k = (l : ℕ) (s t : State) → l < length sc.lines → At l s → met s.forward (line_at sc.lines l).kind ≡ k → Fit sc q d s → rule k sc l s ≡ Ok t → Fit sc q d t

  module _ (l : ℕ) (s t : State) (inside : l < length sc.lines) (here : At l s) (F : Fit sc q d s) where
    abbrev st : ℕ → List Line
    st = stack_at sc.lines

    abbrev fw : Bool
    fw = s.forward

    abbrev ln : Line
    ln = line_at sc.lines l

    stands : In (cur sc q s.frames) (st (past (not fw) l))
    stands = subst (λ p. In (cur sc q s.frames) (st p)) here F.within

    deep : length s.locals ≡ base s.frames + depth (st (past (not fw) l))
    deep = F.deep ∙ ap (λ p. base s.frames + depth (st p)) here

    -- past the line, with as many words
    on : (k : ℕ) → met fw ln.kind ≡ k → (k ≡ 0 → ⊥) → (k ≡ 1 → ⊥) → (k ≡ 8 → ⊥) → (k ≡ 9 → ⊥) → (lc bk : List ℤ)
        → length lc ≡ length s.locals → length bk ≡ length s.book → AllByRecursion IsWord lc → AllByRecursion IsWord bk
        → Fit sc q d (record { position = past fw l; forward = fw; present = s.present; locals = lc; frames = s.frames; book = bk })
    on k h n0 n1 n8 n9 lc bk e f w v =
        keep sc q d s F (past fw l) lc bk (past_high sc ok l inside fw) (pass sc ok l inside fw k (cur sc q s.frames) h n0 n1 stands)
        (e ∙ deep ∙ ap (λ n. base s.frames + n) (sym (pass_depth sc ok l inside fw k h n8 n9)))
        (let g = F.few in omega arith) f w v

    wrote : (k : ℕ) → met fw ln.kind ≡ k → (k ≡ 0 → ⊥) → (k ≡ 1 → ⊥) → (k ≡ 8 → ⊥) → (k ≡ 9 → ⊥) → (u : Spot) (v : ℤ) → IsWord v → (bk : List ℤ) → length bk ≡ length s.book → AllByRecursion IsWord bk
        → Fit sc q d (record { position = past fw l; forward = fw; present = s.present; locals = put_locals u v s.locals; frames = s.frames; book = put_book u v bk })
    wrote k h n0 n1 n8 n9 u v w bk e ws =
        on k h n0 n1 n8 n9 (put_locals u v s.locals) (put_book u v bk) (put_locals_length u v s.locals) (put_book_length u v bk ∙ e)
        (put_locals_words u v s.locals w F.words) (put_book_words u v bk w ws)

    stays : (k : ℕ) → met fw ln.kind ≡ k → (k ≡ 0 → ⊥) → (k ≡ 1 → ⊥) → (k ≡ 8 → ⊥) → (k ≡ 9 → ⊥)
        → Fit sc q d (record { position = past fw l; forward = fw; present = s.present; locals = s.locals; frames = s.frames; book = s.book })
    stays k h n0 n1 n8 n9 = on k h n0 n1 n8 n9 s.locals s.book refl refl F.words (book_words sc q d s F)

    keeps_changed : (k : ℕ) → met fw ln.kind ≡ k → (k ≡ 0 → ⊥) → (k ≡ 1 → ⊥) → (k ≡ 8 → ⊥) → (k ≡ 9 → ⊥) → (f : ℤ → ℤ → ℤ) → ((a b : ℤ) → IsWord (f a b)) → changed sc l s f ≡ Ok t → Fit sc q d t
    keeps_changed k h n0 n1 n8 n9 f w e =
        passed _ _ e λ v val rest.
        passed _ _ rest λ u spot last.
        subst (Fit sc q d) (ok_same last) (wrote k h n0 n1 n8 n9 u (f (read s u) v) (w (read s u) v) s.book refl (book_words sc q d s F))

    keeps_asserted : (k : ℕ) → met fw ln.kind ≡ k → (k ≡ 0 → ⊥) → (k ≡ 1 → ⊥) → (k ≡ 8 → ⊥) → (k ≡ 9 → ⊥) → asserted sc l s ≡ Ok t → Fit sc q d t
    keeps_asserted k h n0 n1 n8 n9 e =
        passed _ _ e λ v val rest.
        held _ _ _ rest λ y last.
        subst (Fit sc q d) (ok_same last) (stays k h n0 n1 n8 n9)

    keeps_branched : (k : ℕ) → met fw ln.kind ≡ k → (k ≡ 0 → ⊥) → (k ≡ 1 → ⊥) → (k ≡ 8 → ⊥) → (k ≡ 9 → ⊥) → bracket ln.kind ≡ true → branched sc l s ≡ Ok t → Fit sc q d t
    keeps_branched k h n0 n1 n8 n9 br e =
        passed _ _ e λ v val rest.
        chose (holds v) _ _ rest
        (λ y last. subst (Fit sc q d) (ok_same last) (stays k h n0 n1 n8 n9))
        (λ n more.
        passed _ _ more λ w mates rest.
        held _ _ _ rest λ m last.
        let over = across_pair sc.lines (block sc ok) l inside br fw in
        let mate = partner sc.lines l in
        subst (Fit sc q d) (ok_same last)
        (keep sc q d s F (past fw mate) s.locals s.book (past_high sc ok mate (partner_in sc.lines (block sc ok) l inside br) fw)
        (subst (In (cur sc q s.frames)) (sym over) stands) (deep ∙ ap (λ x. base s.frames + depth x) (sym over)) F.few refl F.words (book_words sc q d s F)))

    keeps_opened : met fw ln.kind ≡ 8 → opened sc l s ≡ Ok t → Fit sc q d t
    keeps_opened h e =
        held _ _ _ e λ few rest.
        passed _ _ rest λ v val last.
        let room = ltb-true (length s.locals) 256 few in
        let more = length_push s.locals v in
        subst (Fit sc q d) (ok_same last)
        (keep sc q d s F (past fw l) (s.locals ++ (v ∷ [])) s.book (past_high sc ok l inside fw) (pass sc ok l inside fw 8 (cur sc q s.frames) h (λ e. omega arith) (λ e. omega arith) stands)
        (let a = opens_depth sc ok l inside fw h in let b = deep in omega arith) (omega arith) refl
        (all_join IsWord s.locals (v ∷ []) F.words (value_word sc q d s F l v val, tt)) (book_words sc q d s F))

    keeps_closed : met fw ln.kind ≡ 9 → closed sc l s ≡ Ok t → Fit sc q d t
    keeps_closed h e =
        passed _ _ e λ v val rest.
        held _ _ _ rest λ same last.
        let n = length s.locals - 1 in
        let less = length-take-le n s.locals (omega arith) in
        let g = F.few in
        subst (Fit sc q d) (ok_same last)
        (keep sc q d s F (past fw l) (take n s.locals) s.book (past_high sc ok l inside fw) (pass sc ok l inside fw 9 (cur sc q s.frames) h (λ e. omega arith) (λ e. omega arith) stands)
        (let a = closes_depth sc ok l inside fw h in let b = deep in omega arith) (omega arith) refl
        (All-take IsWord n s.locals F.words) (book_words sc q d s F))

    keeps_allocated : met fw ln.kind ≡ 10 → allocated sc l s ≡ Ok t → Fit sc q d t
    keeps_allocated h e =
        passed _ _ e λ u at rest.
        held _ _ _ rest λ nil rest.
        held _ _ _ rest λ head rest.
        held _ _ _ rest λ fit last.
        let b = s.book in
        let z = get_or b 0 (pos 0) in
        let k = named b z in
        let w : AllByRecursion IsWord b = book_words sc q d s F in
        let (is, room) = named_is b z (ltb-true 0 k (and_parts (ltb 0 k) _ fit).0) in
        let kw : IsWord (pos k) = subst IsWord is (all_at IsWord b 0 (pos 0) w zero_word) in
        subst (Fit sc q d) (ok_same last)
        (wrote 10 h (λ e. omega arith) (λ e. omega arith) (λ e. omega arith) (λ e. omega arith) u (pos k) kw (set (set b 0 (get_or b (record_at k + 7) (pos 0))) (record_at k + 7) (pos 0))
        (simp length-set) (all_set IsWord _ (record_at k + 7) (pos 0) (all_set IsWord b 0 _ w (all_at IsWord b (record_at k + 7) (pos 0) w zero_word)) zero_word))

    keeps_freed : met fw ln.kind ≡ 11 → freed sc l s ≡ Ok t → Fit sc q d t
    keeps_freed h e =
        passed _ _ e λ u at rest.
        held _ _ _ rest λ some rest.
        held _ _ _ rest λ clear last.
        let b = s.book in
        let k = named b (read s u) in
        let w : AllByRecursion IsWord b = book_words sc q d s F in
        let (is, room) = named_is b (read s u) (ltb-true 0 k some) in
        let kw : IsWord (pos k) = subst IsWord is (read_word sc q d s F u) in
        subst (Fit sc q d) (ok_same last)
        (wrote 11 h (λ e. omega arith) (λ e. omega arith) (λ e. omega arith) (λ e. omega arith) u (pos 0) zero_word (set (set b (record_at k + 7) (get_or b 0 (pos 0))) 0 (pos k))
        (simp length-set) (all_set IsWord _ 0 (pos k) (all_set IsWord b (record_at k + 7) _ w (all_at IsWord b 0 (pos 0) w zero_word)) kw))

    keeps_copied : met fw ln.kind ≡ 12 → copied sc l s ≡ Ok t → Fit sc q d t
    keeps_copied h e =
        passed _ _ e λ u at₁ rest.
        passed _ _ rest λ w at₂ rest.
        held _ _ _ rest λ nil last.
        subst (Fit sc q d) (ok_same last)
        (wrote 12 h (λ e. omega arith) (λ e. omega arith) (λ e. omega arith) (λ e. omega arith) w (read s u) (read_word sc q d s F u) s.book refl (book_words sc q d s F))

    keeps_uncopied : met fw ln.kind ≡ 13 → uncopied sc l s ≡ Ok t → Fit sc q d t
    keeps_uncopied h e =
        passed _ _ e λ u at₁ rest.
        passed _ _ rest λ w at₂ rest.
        held _ _ _ rest λ same last.
        subst (Fit sc q d) (ok_same last)
        (wrote 13 h (λ e. omega arith) (λ e. omega arith) (λ e. omega arith) (λ e. omega arith) w (pos 0) zero_word s.book refl (book_words sc q d s F))

    keeps_swapped : met fw ln.kind ≡ 15 → swapped sc l s ≡ Ok t → Fit sc q d t
    keeps_swapped h e =
        passed _ _ e λ u at₁ rest.
        passed _ _ rest λ w at₂ last.
        let a = read s u in
        let b = read s w in
        let aw = read_word sc q d s F u in
        let bw = read_word sc q d s F w in
        subst (Fit sc q d) (ok_same last)
        (on 15 h (λ e. omega arith) (λ e. omega arith) (λ e. omega arith) (λ e. omega arith) (put_locals w a (put_locals u b s.locals)) (put_book w a (put_book u b s.book))
        (put_locals_length w a (put_locals u b s.locals) ∙ put_locals_length u b s.locals) (put_book_length w a (put_book u b s.book) ∙ put_book_length u b s.book)
        (put_locals_words w a (put_locals u b s.locals) aw (put_locals_words u b s.locals bw F.words))
        (put_book_words w a (put_book u b s.book) aw (put_book_words u b s.book bw (book_words sc q d s F))))

    keeps_entered : ((line_at sc.lines l).kind ≡ 16) ⊎ ((line_at sc.lines l).kind ≡ 17) → entered sc l s (across (line_at sc.lines l).kind fw) ≡ Ok t → Fit sc q d t
    keeps_entered kinds e =
        held _ _ _ e λ few rest.
        passed _ _ rest λ k is last.
        let fw' = across ln.kind fw in
        let m = method_of sc ok ln.q (calls_method sc ok l inside kinds) in
        let (high, within, none) = entered_in sc ok ln.q m fw' in
        let plain : bracket ln.kind ≡ false = ⊎_elim (λ z. rw z refl) (λ z. rw z refl) kinds in
        let level : st (past (not fw) l) ≡ st l = plain_stack sc.lines l inside plain (not fw) in
        subst (Fit sc q d) (ok_same last)
        (record {
          high = high;
          within = within;
          heads = ap (across ln.kind) F.heads;
          deep = omega arith;
          few = F.few;
          chain = (
            record {
              inside = inside;
              calls = kinds;
              within = subst (In (cur sc q s.frames)) level stands;
              counts = deep ∙ ap (λ x. base s.frames + depth x) level;
              few = ltb-true (length s.frames) 64 few;
              same = callee_same s ln.y k is;
              real = callee_real s ln.y k is;
            },
            F.chain,
          );
          book = F.book;
          words = F.words;
        })

    keeps_returned : met fw ln.kind ≡ 1 → returned sc l s s.frames ≡ Ok t → Fit sc q d t
    keeps_returned h e = by s.frames refl e
      where
        by : (gs : List Frame) → s.frames ≡ gs → returned sc l s gs ≡ Ok t → Fit sc q d t
        by [] tops e = ok_err e
        by (f ∷ fs) tops e =
            passed _ _ e λ v still last.
            let (L, rest) : Chain sc q (records s.book) (f ∷ fs) s.present = subst (λ gs. Chain sc q (records s.book) gs s.present) tops F.chain in
            let (none, _) = at_return sc ok l (cur sc q s.frames) inside fw h stands in
            let kind = (line_at sc.lines f.line).kind in
            let fw' = across kind fw in
            let plain : bracket kind ≡ false = ⊎_elim (λ z. rw z refl) (λ z. rw z refl) L.calls in
            let level : st (past fw' f.line) ≡ st f.line = plain_stack sc.lines f.line L.inside plain fw' in
            let counted : base s.frames ≡ f.count = ap base tops in
            let heads : fw ≡ across kind (way sc d fs) = F.heads ∙ ap (way sc d) tops in
            subst (Fit sc q d) (ok_same last)
            (record {
              high = past_high sc ok f.line L.inside fw';
              within = subst (In (cur sc q fs)) (sym level) L.within;
              heads = ap (across kind) heads ∙ across_back kind (way sc d fs);
              deep = deep ∙ (let c = L.counts in let a = ap depth level in omega arith);
              few = F.few;
              chain = rest;
              book = F.book;
              words = F.words;
            })

  keep_0 : Keeps 0
  keep_0 l s t i here h F e = ok_err e

  keep_1 : Keeps 1
  keep_1 l s t i here h F e = keeps_returned l s t i here F h e

  keep_2 : Keeps 2
  keep_2 l s t i here h F e = keeps_changed l s t i here F 2 h (λ e. omega arith) (λ e. omega arith) (λ e. omega arith) (λ e. omega arith) (λ a b. word (a +ℤ b)) (λ a b. word_is (a +ℤ b)) e

  keep_3 : Keeps 3
  keep_3 l s t i here h F e = keeps_changed l s t i here F 3 h (λ e. omega arith) (λ e. omega arith) (λ e. omega arith) (λ e. omega arith) (λ a b. word (a -ℤ b)) (λ a b. word_is (a -ℤ b)) e

  keep_14 : Keeps 14
  keep_14 l s t i here h F e = keeps_changed l s t i here F 14 h (λ e. omega arith) (λ e. omega arith) (λ e. omega arith) (λ e. omega arith) (on_bits bit_xor) xor_word e

  keep_4 : Keeps 4
  keep_4 l s t i here h F e = keeps_branched l s t i here F 4 h (λ e. omega arith) (λ e. omega arith) (λ e. omega arith) (λ e. omega arith) (bracket_met s.forward _ 4 h refl) e

  keep_7 : Keeps 7
  keep_7 l s t i here h F e = keeps_branched l s t i here F 7 h (λ e. omega arith) (λ e. omega arith) (λ e. omega arith) (λ e. omega arith) (bracket_met s.forward _ 7 h refl) e

  keep_5 : Keeps 5
  keep_5 l s t i here h F e = keeps_asserted l s t i here F 5 h (λ e. omega arith) (λ e. omega arith) (λ e. omega arith) (λ e. omega arith) e

  keep_6 : Keeps 6
  keep_6 l s t i here h F e = keeps_asserted l s t i here F 6 h (λ e. omega arith) (λ e. omega arith) (λ e. omega arith) (λ e. omega arith) e

  keep_8 : Keeps 8
  keep_8 l s t i here h F e = keeps_opened l s t i here F h e

  keep_9 : Keeps 9
  keep_9 l s t i here h F e = keeps_closed l s t i here F h e

  keep_10 : Keeps 10
  keep_10 l s t i here h F e = keeps_allocated l s t i here F h e

  keep_11 : Keeps 11
  keep_11 l s t i here h F e = keeps_freed l s t i here F h e

  keep_12 : Keeps 12
  keep_12 l s t i here h F e = keeps_copied l s t i here F h e

  keep_13 : Keeps 13
  keep_13 l s t i here h F e = keeps_uncopied l s t i here F h e

  keep_15 : Keeps 15
  keep_15 l s t i here h F e = keeps_swapped l s t i here F h e

  keep_16 : Keeps 16
  keep_16 l s t i here h F e = let is = same_kind sc l 16 s refl h in keeps_entered l s t i here F (inl is) (rw is e)

  keep_17 : Keeps 17
  keep_17 l s t i here h F e = let is = same_kind sc l 17 s refl h in keeps_entered l s t i here F (inr is) (rw is e)

  all_keep : Each Keeps 0 18
  all_keep = (keep_0, (keep_1, (keep_2, (keep_3, (keep_4, (keep_5, (keep_6, (keep_7, (keep_8, (keep_9, (keep_10, (keep_11, (keep_12, (keep_13, (keep_14, (keep_15, (keep_16, (keep_17, tt))))))))))))))))))

  -- a step keeps it
  pub step_kept : (s t : State) → Fit sc q d s → step sc s ≡ Ok t → Fit sc q d t
  unfolding step
  step_kept s t F e =
      ⊎_elim
      (λ low. each_at Keeps 0 18 (kind_met sc s) all_keep (omega arith) (omega arith) (turn_of s) s t (turn_in sc ok q d s F) (turn_at sc ok q d s F) refl F e)
      (λ high. ok_err (ap (λ r. r sc (turn_of s) s) (sym (get_or_past rules (kind_met sc s) (λ _ _ _. Err Unknown) high)) ∙ e))
      (cases_lt (kind_met sc s) 18)
