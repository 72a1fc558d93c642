-- Lists of words and of what they are read as.
use Rattle.std.proofs.Common.{ℕ, Some, List, [], ◌∷◌, Bor, sym, subst}
use Rattle.std.specs.declared.str.SplitWhitespace.{SplitWhitespace}
use Rattle.std.specs.Iterator.{Yields}
use Rattle.std.specs.List.{AllZip}
use Rattle.std.specs.Str.Iter.{split_whitespace_steps}
use Rattle.case_words.specs.Words.{HasWord}

-- what P says of each pair, Q says too
pub AllZip-weaker : {A B : Type 0} (P Q : A → B → Type 0) (xs : List A) (ys : List B) → ((x : A) (y : B) → P x y → Q x y) → AllZip P xs ys → AllZip Q xs ys
AllZip-weaker P Q [] [] f h = tt
AllZip-weaker P Q [] (b ∷ ys) f h = absurd h
AllZip-weaker P Q (a ∷ xs) [] f h = absurd h
AllZip-weaker P Q (a ∷ xs) (b ∷ ys) f h = (f a b h.0, AllZip-weaker P Q xs ys f h.1)

-- where a word comes after those that were read, a word was there at the start
pub word_at_start : (s : SplitWhitespace) (words : List (Bor (List ℕ))) (t : SplitWhitespace) (word : Bor (List ℕ)) (u : SplitWhitespace) → Yields split_whitespace_steps s words t → split_whitespace_steps t (Some word) u → HasWord s
word_at_start s [] t word u same next = (word, u, subst (λ v. split_whitespace_steps v (Some word) u) (sym same) next)
word_at_start s (first ∷ words) t word u read next = (first, read.0, read.1)
