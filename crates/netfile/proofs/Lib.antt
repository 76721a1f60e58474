mod Rowing
