-- Bytes of commands and back. Assumes nothing.
use Rattle.std.proofs.Common.{◌≡◌, zero, suc, lit<, Option, Some, None, false, ltb-true, not, position, MatchOption, ℕ, ◌+◌, ◌*◌, ◌<◌, ◌≤◌, true, cond, ◌||◌, eqb, ltb, List, [], ◌∷◌, ◌++◌, length, get_or, take, drop, sym, refl, ap, ◌∙◌, subst, arith}
use Rattle.std.proofs.lemmas.Nat.{be_bytes_2, be_bytes_4, from_be_bytes-to_be_bytes_2, from_be_bytes-to_be_bytes_4}
use Rattle.std.proofs.ByRecursion.{All-drop}
use Rattle.std.proofs.lemmas.List.{length-take-le, length-drop, length-append, drop_at, take_at}
use Rattle.std.proofs.lemmas.Bool.{cond_both, cond-true, cond-false, le-ltb, ltb-false, eqb-true, or_from, or_parts}
use Rattle.std.proofs.lemmas.List.Recursion.{is_position_or_len}
use Rattle.std.proofs.lemmas.List.Sums.{prefix_len-le-length}
use Rattle.std.specs.List.{AllByRecursion, position_or_len}
use Rattle.sheet.specs.Commands.{longest_sheet, note_length, last_rule, Meaning, post, amend, strike, clear, note, list, divide, bytes, big2, big4, printable, Fit}
use Rattle.sheet.specs.Reading.{Reading, end, read, refused, value2, value4, command, post_at, amend_at, strike_at, note_at, list_at, divide_at, whole, clean, reading, Spelled, ReadsBack}

-- what holds of every list of n elements or more, asked of its first n and the rest
abbrev AtLeast : ℕ → (List ℕ → Type 0) → Type 0
AtLeast zero P = (bs : List ℕ) → P bs
AtLeast (suc n) P = (b : ℕ) → AtLeast n (λ bs. P (b ∷ bs))

by_first : (n : ℕ) (P : List ℕ → Type 0) → AtLeast n P → (bs : List ℕ) → n ≤ length bs → P bs
by_first zero P h bs long = h bs
by_first (suc n) P h [] long = absurd (omega arith)
by_first (suc n) P h (b ∷ bs) long = by_first n (λ z. P (b ∷ z)) (h b) bs (omega arith)

-- numbers
below_256 : (bs : List ℕ) → AllByRecursion (λ b. b < 256) bs → (i : ℕ) → get_or bs i 0 < 256
below_256 [] bounded i = lit< tt
below_256 (b ∷ bs) bounded zero = bounded.0
below_256 (b ∷ bs) bounded (suc i) = below_256 bs bounded.1 i

big2-value2 : (a b : ℕ) → a < 256 → b < 256 → big2 (a * 256 + b) ≡ a ∷ b ∷ []
big2-value2 a b h k = be_bytes_2 (a ∷ b ∷ []) _ refl (below_256 (a ∷ b ∷ []) (h, (k, tt))) refl

big4-value4 : (a b c d : ℕ) → a < 256 → b < 256 → c < 256 → d < 256 → big4 (a * 16777216 + b * 65536 + c * 256 + d) ≡ a ∷ b ∷ c ∷ d ∷ []
big4-value4 a b c d h k l m = be_bytes_4 (a ∷ b ∷ c ∷ d ∷ []) _ refl (below_256 (a ∷ b ∷ c ∷ d ∷ []) (h, (k, (l, (m, tt))))) refl

-- a note is clean to its end exactly when each of its bytes can stand there
clean_all : (text : List ℕ) → AllByRecursion (λ b. printable b ≡ true) text → clean text ≡ length text
clean_all [] h = refl
clean_all (b ∷ text) h = cond-true (printable b) (1 + clean text) 0 h.0 ∙ omega (arith, clean_all text h.1)

pub all_clean : (text : List ℕ) → length text ≤ clean text → AllByRecursion (λ b. printable b ≡ true) text
all_clean [] h = tt
all_clean (b ∷ text) h =
    cond_both (printable b) (1 + clean text) 0 (λ v. length (b ∷ text) ≤ v → AllByRecursion (λ z. printable z ≡ true) (b ∷ text))
    (λ e le. (e, all_clean text (omega arith)))
    (λ e le. absurd (omega arith)) h

-- the first byte that cannot stand in a note has as many before it as are clean; without one, the note is clean to its end
pub position-clean : (text : List ℕ) (r : Option ℕ) → r ≡ position (λ b. not (printable b)) text → MatchOption r (clean text ≡ length text) (λ i. (i ≡ clean text) × (i < length text))
position-clean text r is =
    let same : clean text ≡ position_or_len (λ b. not (printable b)) text = is_position_or_len clean (λ b. not (printable b)) refl (λ b bs. elim (printable b) as (λ v. cond v (1 + clean bs) 0 ≡ cond (not v) 0 (1 + clean bs)) [ true ↦ refl | false ↦ refl ]) text in
    let n : ℕ = position_or_len (λ b. not (printable b)) text in
    subst (λ o. MatchOption o (clean text ≡ length text) (λ i. (i ≡ clean text) × (i < length text))) (sym is)
    (cond_both (ltb n (length text)) (Some n) None (λ o. MatchOption o (clean text ≡ length text) (λ i. (i ≡ clean text) × (i < length text)))
    (λ e. (sym same, ltb-true n (length text) e))
    (λ e. omega (arith, prefix_len-le-length printable text, ltb-false n (length text) e, same)))

-- bytes of a sheet, read at a place within it
pub at_place : (s : List ℕ) (p : ℕ) → length s ≤ longest_sheet → p ≤ length s → reading s p ≡ command p (drop p s)
at_place s p short within = cond-false _ _ _ (or_from _ _ (le-ltb longest_sheet (length s) short) (le-ltb (length s) p within))

-- what is read from bytes that begin at a place
abbrev Begun : ℕ → List ℕ → Reading → Type 0
Begun p bs end = length bs ≡ 0
Begun p bs (read m q) = Fit m × (q ≡ p + length (bytes m)) × (length (bytes m) ≤ length bs) × (take (length (bytes m)) bs ≡ bytes m)
Begun p bs (refused n vs) = 0 < length bs

at-whole : (p w : ℕ) (bs : List ℕ) (r : Reading) → w ≤ length bs → whole p w bs r ≡ r
at-whole p w bs r h = cond-false _ _ _ (le-ltb (length bs) w h)

whole_or_cut : (p w b : ℕ) (bs : List ℕ) (r : Reading) → (w ≤ length bs → Begun p (b ∷ bs) r) → Begun p (b ∷ bs) (whole p w bs r)
whole_or_cut p w b bs r h =
    cond_both (ltb (length bs) w) (refused 14 (p ∷ [])) r (Begun p (b ∷ bs)) (λ _. omega arith) (λ e. h (ltb-false (length bs) w e))

-- operands of a width, shown for every list of so many bytes or more by its first bytes
by_operands : (p w b : ℕ) (r : List ℕ → Reading) → AtLeast w (λ bs. AllByRecursion (λ b. b < 256) bs → Begun p (b ∷ bs) (r bs)) → (bs : List ℕ) → AllByRecursion (λ b. b < 256) bs → Begun p (b ∷ bs) (whole p w bs (r bs))
by_operands p w b r h bs bounded = whole_or_cut p w b bs (r bs) (λ long. by_first w (λ bs. AllByRecursion (λ b. b < 256) bs → Begun p (b ∷ bs) (r bs)) h bs long bounded)

module _ (p : ℕ) where
  begun_post : (bs : List ℕ) → AllByRecursion (λ b. b < 256) bs → Begun p (0x50 ∷ bs) (post_at p bs)
  begun_post =
      by_operands p 6 0x50 (λ bs. read (post (get_or bs 0 0) (get_or bs 1 0) (value4 (drop 2 bs))) (p + 7))
      (λ f t a b c d bs (hf, (ht, (ha, (hb, (hc, (hd, rest)))))). ((hf, ht, omega arith), refl, omega arith, ap (λ z. 0x50 ∷ f ∷ t ∷ z) (sym (big4-value4 a b c d ha hb hc hd))))

  begun_amend : (bs : List ℕ) → AllByRecursion (λ b. b < 256) bs → Begun p (0x41 ∷ bs) (amend_at p bs)
  begun_amend =
      by_operands p 6 0x41 (λ bs. read (amend (value2 bs) (value4 (drop 2 bs))) (p + 7))
      (λ h l a b c d bs (hh, (hl, (ha, (hb, (hc, (hd, rest)))))). (
        (omega arith, omega arith),
        refl,
        omega arith,
        ap (λ z. 0x41 ∷ h ∷ l ∷ z) (sym (big4-value4 a b c d ha hb hc hd)) ∙ ap (λ z. 0x41 ∷ (z ++ big4 (value4 (a ∷ b ∷ c ∷ d ∷ bs)))) (sym (big2-value2 h l hh hl)),
      ))

  begun_strike : (bs : List ℕ) → AllByRecursion (λ b. b < 256) bs → Begun p (0x53 ∷ bs) (strike_at p bs)
  begun_strike =
      by_operands p 2 0x53 (λ bs. read (strike (value2 bs)) (p + 3))
      (λ h l bs (hh, (hl, rest)). (omega arith, refl, omega arith, ap (λ z. 0x53 ∷ z) (sym (big2-value2 h l hh hl))))

  begun_list : (bs : List ℕ) → AllByRecursion (λ b. b < 256) bs → Begun p (0x4B ∷ bs) (list_at p bs)
  begun_list =
      by_operands p 4 0x4B (λ bs. read (list (value4 bs)) (p + 5))
      (λ a b c d bs (ha, (hb, (hc, (hd, rest)))). (omega arith, refl, omega arith, ap (λ z. 0x4B ∷ z) (sym (big4-value4 a b c d ha hb hc hd))))

  begun_divide : (bs : List ℕ) → AllByRecursion (λ b. b < 256) bs → Begun p (0x44 ∷ bs) (divide_at p bs)
  begun_divide =
      by_operands p 1 0x44 (λ bs. cond (ltb last_rule (get_or bs 0 0)) (refused 16 ((p + 1) ∷ [])) (read (divide (get_or bs 0 0)) (p + 2)))
      (λ r bs bounded. cond_both (ltb last_rule r) _ _ (Begun p (0x44 ∷ r ∷ bs)) (λ _. omega arith) (λ e. (ltb-false last_rule r e, refl, omega arith, refl)))

  begun_note : (bs : List ℕ) → Begun p (0x4E ∷ bs) (note_at p bs)
  begun_note bs =
      whole_or_cut p note_length 0x4E bs _ (λ long.
      let n : length (take note_length bs) ≡ note_length = length-take-le note_length bs long in
      cond_both (ltb (clean (take note_length bs)) note_length) _ _ (Begun p (0x4E ∷ bs)) (λ _. omega arith)
      (λ e. ((n, all_clean (take note_length bs) (omega (arith, n, ltb-false (clean (take note_length bs)) note_length e))), omega (arith, n), omega (arith, n), ap (λ k. 0x4E ∷ take k bs) n)))

  begun : (bs : List ℕ) → AllByRecursion (λ b. b < 256) bs → Begun p bs (command p bs)
  begun [] bounded = refl
  begun (byte ∷ bs) bounded =
      cond_both (eqb byte 0x50) _ _ (Begun p (byte ∷ bs)) (at_byte 0x50 (post_at p bs) (begun_post bs bounded.1))
      (λ _. cond_both (eqb byte 0x41) _ _ (Begun p (byte ∷ bs)) (at_byte 0x41 (amend_at p bs) (begun_amend bs bounded.1))
      (λ _. cond_both (eqb byte 0x53) _ _ (Begun p (byte ∷ bs)) (at_byte 0x53 (strike_at p bs) (begun_strike bs bounded.1))
      (λ _. cond_both (eqb byte 0x43) _ _ (Begun p (byte ∷ bs)) (at_byte 0x43 (read clear (p + 1)) (tt, refl, omega arith, refl))
      (λ _. cond_both (eqb byte 0x4E) _ _ (Begun p (byte ∷ bs)) (at_byte 0x4E (note_at p bs) (begun_note bs))
      (λ _. cond_both (eqb byte 0x4B) _ _ (Begun p (byte ∷ bs)) (at_byte 0x4B (list_at p bs) (begun_list bs bounded.1))
      (λ _. cond_both (eqb byte 0x44) _ _ (Begun p (byte ∷ bs)) (at_byte 0x44 (divide_at p bs) (begun_divide bs bounded.1))
      (λ _. omega arith)))))))
    where
      at_byte : (n : ℕ) (r : Reading) → Begun p (n ∷ bs) r → eqb byte n ≡ true → Begun p (byte ∷ bs) r
      at_byte n r h e = subst (λ b. Begun p (b ∷ bs) r) (sym (eqb-true byte n e)) h

-- what `reading` gives stands in the sheet
pub spelled : (s : List ℕ) (p : ℕ) → AllByRecursion (λ b. b < 256) s → Spelled s p (reading s p)
spelled s p bounded =
    cond_both (ltb longest_sheet (length s) || ltb (length s) p) (refused 12 []) (command p (drop p s)) (Spelled s p) (λ _ other. absurd (other refl))
    (λ e.
    let parts = or_parts (ltb longest_sheet (length s)) (ltb (length s) p) e in
    from_begun (command p (drop p s)) (ltb-false longest_sheet (length s) parts.0) (ltb-false (length s) p parts.1) (begun p (drop p s) (All-drop _ p s bounded)))
  where
    from_begun : (r : Reading) → length s ≤ longest_sheet → p ≤ length s → Begun p (drop p s) r → Spelled s p r
    from_begun end short within h = omega (arith, length-drop p s, h)
    from_begun (read m q) short within (fit, after, long, same) =
        let rest = length-drop p s in
        (fit, after, omega (arith, rest, after, long), ap (λ k. take k (drop p s)) (omega (arith, after)) ∙ same)
    from_begun (refused n vs) short within h = λ other. (omega (arith, length-drop p s, h), short)

-- a command's bytes are read as that command
back : (p : ℕ) (m : Meaning) → Fit m → (rest : List ℕ) → command p (bytes m ++ rest) ≡ read m (p + length (bytes m))
back p (post from to amount) fit rest =
    at-whole p 6 (from ∷ to ∷ (big4 amount ++ rest)) _ (omega arith) ∙ ap (λ a. read (post from to a) (p + 7)) (from_be_bytes-to_be_bytes_4 amount fit.2)
back p (amend line amount) fit rest =
    at-whole p 6 (big2 line ++ big4 amount ++ rest) _ (omega arith)
    ∙ (ap (λ n. read (amend n (value4 (big4 amount))) (p + 7)) (from_be_bytes-to_be_bytes_2 line fit.0) ∙ ap (λ a. read (amend line a) (p + 7)) (from_be_bytes-to_be_bytes_4 amount fit.1))
back p (strike line) fit rest =
    at-whole p 2 (big2 line ++ rest) _ (omega arith) ∙ ap (λ n. read (strike n) (p + 3)) (from_be_bytes-to_be_bytes_2 line fit)
back p clear fit rest = refl
back p (note text) fit rest =
    let long = fit.0 in
    let cut = take_at text rest note_length long in
    at-whole p note_length (text ++ rest) _ (omega (arith, length-append text rest, long))
    ∙ (ap (λ z. cond (ltb (clean z) note_length) (refused 15 ((p + 1 + clean z) ∷ [])) (read (note z) (p + 17))) cut
    ∙ (cond-false _ _ _ (le-ltb (clean text) note_length (omega (arith, long, clean_all text fit.1))) ∙ ap (λ k. read (note text) k) (omega (arith, long))))
back p (list floor) fit rest = at-whole p 4 (big4 floor ++ rest) _ (omega arith) ∙ ap (λ n. read (list n) (p + 5)) (from_be_bytes-to_be_bytes_4 floor fit)
back p (divide rule) fit rest = at-whole p 1 (rule ∷ rest) _ (omega arith) ∙ cond-false _ _ _ (le-ltb last_rule rule fit)

pub reads_back : (m : Meaning) → Fit m → ReadsBack m
reads_back m fit front rest short =
    at_place (front ++ (bytes m ++ rest)) (length front) short (omega (arith, length-append front (bytes m ++ rest)))
    ∙ (ap (command (length front)) (drop_at front (bytes m ++ rest) (length front) refl) ∙ back (length front) m fit rest)
