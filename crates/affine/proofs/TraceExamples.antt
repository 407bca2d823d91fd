-- The trace of the jump of 1000 steps of "times 371, plus 995", computed round by round.
use Rattle.std.proofs.Common.{◌≡◌, ℕ, ◌%◌, ◌^◌, List, [], ◌∷◌, map, refl}
use Rattle.affine.specs.declared.Affine.{Affine}
use Rattle.affine.specs.declared.Progress.{Progress}
use Rattle.affine.specs.Trace.{affine_of, identity, progress_of, start_of, Performed, Traced}
use Rattle.affine.proofs.Trace.{row_rounded, trace}
use Rattle.affine.proofs.TraceNumbers.{row_of, row_is}

-- what the law of the trace says of the example
traced : (k : ℕ) → Traced 371 995 1000 k (row_of 371 995 1000 k)
traced = trace (row_is 371 995 1000)

-- after 0 to 10 rounds
abbrev pub states : List Progress
states = map (row_of 371 995 1000) (0 ∷ 1 ∷ 2 ∷ 3 ∷ 4 ∷ 5 ∷ 6 ∷ 7 ∷ 8 ∷ 9 ∷ 10 ∷ [])

whole :
    states
    ≡ progress_of 371 995 1 0 1000
    ∷ progress_of 137641 370140 1 0 500
    ∷ progress_of 18945044881 50946809880 1 0 250
    ∷ progress_of 8426588142622823457 5958907938424350128 1 0 125
    ∷ progress_of 7044127187875638337 11464580921296830816 8426588142622823457 5958907938424350128 62
    ∷ progress_of 12397820398864263297 7165650427493046976 8426588142622823457 5958907938424350128 31
    ∷ progress_of 3526004775339626753 7487851320309585280 6651446245982850209 16391315385247701104 15
    ∷ progress_of 18349612696888353281 11454970641580141312 9002453379218374049 278389072815398384 7
    ∷ progress_of 7876774105537725441 3732512997869442560 10518118677829246881 365814603142572272 3
    ∷ progress_of 12588624682098657281 948190459567188992 7700106503245702049 5002382668948553456 1
    ∷ progress_of 17141258589506703361 16930289225511032832 8297775752359979937 11844515184105876208 0
    ∷ []
unfolding row_of
whole = refl

-- their low 10 bits
abbrev low_of : Affine → Affine
low_of f = affine_of (f.factor % 2 ^ 10) (f.offset % 2 ^ 10)

low :
    map (λ p. record { stride = low_of p.stride; done = low_of p.done; left = p.left }) states
    ≡ progress_of 371 995 1 0 1000
    ∷ progress_of 425 476 1 0 500
    ∷ progress_of 401 24 1 0 250
    ∷ progress_of 33 432 1 0 125
    ∷ progress_of 65 352 33 432 62
    ∷ progress_of 129 704 33 432 31
    ∷ progress_of 257 384 161 112 15
    ∷ progress_of 513 768 417 496 7
    ∷ progress_of 1 512 929 240 3
    ∷ progress_of 1 0 929 752 1
    ∷ progress_of 1 0 929 752 0
    ∷ []
unfolding row_of
low = refl

-- the jump ends after 12 rounds, by four at a time; the last two are at index 0 and leave what is done
ends : (row_of 371 995 1000 12).done ≡ (row_of 371 995 1000 10).done
unfolding row_of
ends = refl

-- what the jump promises of its map, by the ten rounds down to index 0
performed : Performed (start_of 371 995 1000) (affine_of 8297775752359979937 11844515184105876208)
unfolding row_of
performed =
    record {
      rounds = 10;
      last = row_of 371 995 1000 10;
      rounded = row_rounded (row_is 371 995 1000) 10;
      over = refl;
      result = refl;
    }

-- a jump of no step ends before the first round, and four rounds would not change it
none : map (λ k. (row_of 1 1 0 k).done) (0 ∷ 4 ∷ []) ≡ identity ∷ identity ∷ []
unfolding row_of
none = refl
